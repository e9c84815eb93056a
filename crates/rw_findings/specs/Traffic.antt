-- What came on the channels of a run: the values of each, and the lives of its handles.
use Rattle.std.specs.Prelude.{◌≡◌, ◌≢◌, ℕ, ◌<◌, ◌^◌, Bool, false, List, [], ◌∷◌, length, Option, None, Some, is_some}
use Rattle.std.specs.Prelude.{slice_get, slice_index_or}
use Rattle.rw_handles.specs.declared.kinds.Kind.TheVariants.{Sender, Receiver}
use Rattle.rw_journal.specs.Run.{Run}
use Rattle.rw_navigator.specs.Places.{last_place}
use Rattle.rw_world.specs.Channel.{handle_of}
use Rattle.rw_world.specs.Machines.{ChanShown}
use Rattle.rw_world.specs.Specified.{WorldEntry}
use Rattle.rw_findings.specs.Lives.{AddedMade, AreLivesTo, CountedCall, Life, born, kind_in}
use Rattle.rw_findings.specs.Values.{AreValuesTo, NotedState}
use Rattle.rw_findings.specs.declared.values.value.ChannelValue.{ChannelValue}

-- what callers see of what came on a channel
pub record ChannelTraffic (V : Type 0) : Type 0 where
  pub values : List (ChannelValue V)
  pub lives : List Life

module _ {V : Type 0} where
  -- up to a place, these are the channel's values, and the lives of its handles
  pub record IsTrafficTo (run : Run V) (channel last : ℕ) (traffic : ChannelTraffic V) : Type 0 where
    pub values : AreValuesTo run channel last traffic.values
    pub lives : AreLivesTo run channel last traffic.lives

  -- up to a place, this is what came on each channel that is asked for
  pub record AreTrafficTo (run : Run V) (channels : List Bool) (last : ℕ) (found : List (Option (ChannelTraffic V))) : Type 0 where
    pub many : length found ≡ length run.specs
    pub asked : (channel : ℕ) → channel < length run.specs → is_some (slice_index_or found channel None) ≡ slice_index_or channels channel false
    pub each : (channel : ℕ) (traffic : ChannelTraffic V) → slice_index_or found channel None ≡ Some traffic → IsTrafficTo run channel last traffic

  -- this is what came in the whole run
  abbrev pub AreTraffic : Run V → (channels : List Bool) → List (Option (ChannelTraffic V)) → Type 0
  AreTraffic run channels found = AreTrafficTo run channels (last_place run) found

-- ---- inside

-- the lives of the handles that a channel opens with
abbrev pub first_lives : List Life
first_lives = born Sender 0 None ∷ born Receiver 0 None ∷ []

module _ {V : Type 0} where
  -- at the opening, where this is shown of a channel: what is there of it, if it is asked for
  pub record IsOpened (is_asked : Bool) (x : ChanShown V) (o : Option (ChannelTraffic V)) : Type 0 where
    pub asked : is_some o ≡ is_asked
    pub values : (t : ChannelTraffic V) → o ≡ Some t → NotedState [] t.values x 0
    pub lives : (t : ChannelTraffic V) → o ≡ Some t → t.lives ≡ first_lives

  -- the same of the first channels, where this is shown of all
  pub record AreOpened (xs : List (ChanShown V)) (channels : List Bool) (count : ℕ) (found : List (Option (ChannelTraffic V))) : Type 0 where
    pub many : length found ≡ count
    pub each : (channel : ℕ) (x : ChanShown V) → channel < count → slice_get xs channel ≡ Some x
        → IsOpened (slice_index_or channels channel false) x (slice_index_or found channel None)

  -- the counts of calls can grow by one
  abbrev pub HasRoom : ChannelTraffic V → Type 0
  HasRoom t = (handle actor : ℕ) (life : Life) → slice_get t.lives handle ≡ Some life → slice_index_or life.calls actor 0 < 2 ^ 63

  abbrev pub HasRoomIfSome : Option (ChannelTraffic V) → Type 0
  HasRoomIfSome o = (t : ChannelTraffic V) → o ≡ Some t → HasRoom t

  abbrev pub HaveRoom : List (Option (ChannelTraffic V)) → Type 0
  HaveRoom found = (channel : ℕ) → HasRoomIfSome (slice_index_or found channel None)

  -- from traffic to traffic by an entry of its channel, which leads to this place, where this is shown of the channel
  pub record IsFollowed (old new : ChannelTraffic V) (e : WorldEntry V) (x : ChanShown V) (place : ℕ) : Type 0 where
    pub values : NotedState old.values new.values x place
    pub mid : List Life
    pub call : CountedCall old.lives mid (handle_of e.call.call) e.actor (kind_in x (handle_of e.call.call)) place
    pub made : AddedMade mid new.lives x place e.actor

  -- the same where the channel may not be asked for
  pub record IsFollowedOn (old new : Option (ChannelTraffic V)) (e : WorldEntry V) (x : ChanShown V) (place : ℕ) : Type 0 where
    pub same : is_some new ≡ is_some old
    pub own : (before after : ChannelTraffic V) → old ≡ Some before → new ≡ Some after → IsFollowed before after e x place

  -- the same of all channels, where this is shown of them: of the others nothing has changed
  pub record AreFollowed (old new : List (Option (ChannelTraffic V))) (e : WorldEntry V) (xs : List (ChanShown V)) (place : ℕ) : Type 0 where
    pub many : length new ≡ length old
    pub others : (c : ℕ) → c ≢ e.call.channel → slice_index_or new c None ≡ slice_index_or old c None
    pub own : (x : ChanShown V) → slice_get xs e.call.channel ≡ Some x
        → IsFollowedOn (slice_index_or old e.call.channel None) (slice_index_or new e.call.channel None) e x place
