-- The machine of one channel, as it passes the places of a run.
use Rattle.std.proofs.Common.{◌≡◌, ◌≢◌, ℕ, ◌+◌, ◌<◌, ◌≤◌, length, get_or, ap, sym, ◌∙◌, subst, arith}
use Rattle.std.specs.Prelude.{MatchOption, Some, option_map, slice_get}
use Rattle.std.proofs.lemmas.Option.{slice_get-get_or, slice_get-map}
use Rattle.rw_journal.specs.Run.{Run}
use Rattle.rw_law.proofs.Journals.{after_more}
use Rattle.rw_world.specs.Lists.{map_at}
use Rattle.rw_world.specs.Machines.{ChanShown, of_chan, of_world}
use Rattle.rw_world.specs.Openings.{opening_row, opened_channel}
use Rattle.rw_world.specs.Records.{ShowsAtPlaces}
use Rattle.rw_world.specs.Specified.{WorldEntry}
use Rattle.rw_world.specs.declared.channels.Chan.{Chan}
use Rattle.rw_world.specs.declared.opening.Spec.{Spec}
use Rattle.rw_world.specs.declared.opening.Spec.TheVariants.{Broadcast, Watch}
use Rattle.rw_world.proofs.Documenting.{chan_laws}
use Rattle.rw_world.proofs.Modifying.{get-modified, get-modified_other}
use Rattle.rw_findings.specs.Following.{Stands}
use Rattle.rw_navigator.specs.Places.{last_place, shown_at}
use Rattle.rw_findings.proofs.LossEntries.{each_at}
use Rattle.rw_findings.proofs.LossRuns.{allowed_at, at_place}

module _ {V : Type 0} where
  module _ (shows : ShowsAtPlaces V) (run : Run V) where
    pub shown_next : (p : ℕ) (e : WorldEntry V) → p < length run.entries → e ≡ get_or run.entries p e
        → shown_at run (p + 1) ≡ (of_world {V = V}).next (shown_at run p) e.call
    shown_next p e within read =
        sym (shows run.specs run.entries (p + 1))
        ∙ after_more of_world (opening_row run.specs) run.entries p e within
        ∙ ap (λ (f : WorldEntry V). (of_world {V = V}).next (at_place run p) f.call) (sym read)
        ∙ ap (λ xs. (of_world {V = V}).next xs e.call) (shows run.specs run.entries p)

    pub allowed_is : (c p : ℕ) (x : ChanShown V) → slice_get (shown_at run p) c ≡ Some x → (of_chan {V = V}).allowed x
    allowed_is c p x here =
        let all : (of_world {V = V}).allowed (shown_at run p) =
        subst (λ xs. (of_world {V = V}).allowed xs) (shows run.specs run.entries p) (allowed_at run p) in
        let one : MatchOption (slice_get (shown_at run p) c) (Unit {0}) (of_chan {V = V}).allowed = each_at (of_chan {V = V}).allowed (shown_at run p) c all in
        subst (λ o. MatchOption o (Unit {0}) (of_chan {V = V}).allowed) here one

    module _ (c p : ℕ) (e : WorldEntry V) (within : p < length run.entries) (read : e ≡ get_or run.entries p e) where
      pub channel_here : (x : ChanShown V) → slice_get (shown_at run p) c ≡ Some x → e.call.channel ≡ c
          → slice_get (shown_at run (p + 1)) c ≡ Some ((of_chan {V = V}).next x e.call.call)
      channel_here x here on =
          ap (λ xs. slice_get xs c) (shown_next p e within read)
          ∙ ap (λ k. slice_get (map_at (λ y. (of_chan {V = V}).next y e.call.call) (shown_at run p) k) c) on
          ∙ get-modified (λ y. (of_chan {V = V}).next y e.call.call) (shown_at run p) c x here

      pub channel_there : e.call.channel ≢ c → slice_get (shown_at run (p + 1)) c ≡ slice_get (shown_at run p) c
      channel_there apart =
          ap (λ xs. slice_get xs c) (shown_next p e within read)
          ∙ get-modified_other (λ y. (of_chan {V = V}).next y e.call.call) (shown_at run p) e.call.channel c apart

      -- the machine makes the call
      pub stands_here : (m n : Chan V) → Stands run c m p → e.call.channel ≡ c
          → (of_chan {V = V}).shown n ≡ (of_chan {V = V}).next ((of_chan {V = V}).shown m) e.call.call
          → (of_chan {V = V}).reserved n ≡ (of_chan {V = V}).reserved m → Stands run c n (p + 1)
      stands_here m n stands on view room =
          let x = (of_chan {V = V}).shown m in
          let rises : (of_chan {V = V}).weigh ((of_chan {V = V}).next x e.call.call) ≤ (of_chan {V = V}).weigh x + 1 =
          chan_laws.weight_rises x e.call.call (allowed_is c p x stands.shows) in
          let weight : (of_chan {V = V}).weigh ((of_chan {V = V}).shown n) ≤ (of_chan {V = V}).weigh x + 1 =
          subst (λ y. (of_chan {V = V}).weigh y ≤ (of_chan {V = V}).weigh x + 1) (sym view) rises in
          record {
            shows = channel_here x stands.shows on ∙ ap Some (sym view);
            room = omega (arith, stands.room, weight, room, within);
          }

      -- the call is on another channel
      pub stands_there : (m : Chan V) → Stands run c m p → e.call.channel ≢ c → Stands run c m (p + 1)
      stands_there m stands apart = record { shows = channel_there apart ∙ stands.shows; room = omega (arith, stands.room) }

    -- at its opening
    pub stands_first : (c : ℕ) (spec : Spec V) (m : Chan V) → c < length run.specs → spec ≡ get_or run.specs c spec
        → (of_chan {V = V}).shown m ≡ opened_channel spec
        → (of_chan {V = V}).weigh ((of_chan {V = V}).shown m) + last_place run ≤ (of_chan {V = V}).reserved m → Stands run c m 0
    stands_first c spec m within read opened room = record {
      shows =
          ap (λ xs. slice_get xs c) (sym (shows run.specs run.entries 0))
          ∙ slice_get-map opened_channel run.specs c
          ∙ ap (option_map opened_channel) (slice_get-get_or run.specs c spec within ∙ ap Some (sym read))
          ∙ ap Some (sym opened);
      room = omega (arith, room);
    }

  -- a channel weighs little at its opening
  light : (spec : Spec V) → (of_chan {V = V}).weigh (opened_channel spec) ≤ 2
  light (Broadcast capacity) = omega arith
  light (Watch init) = omega arith

  pub opens_light : (x : ChanShown V) (spec : Spec V) → x ≡ opened_channel spec → (of_chan {V = V}).weigh x ≤ 2
  opens_light x spec opened = subst (λ y. (of_chan {V = V}).weigh y ≤ 2) (sym opened) (light spec)
