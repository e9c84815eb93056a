-- Desks with seats, and a hand-off for each channel's book.
use Rattle.std.specs.Prelude.{◌≡◌, ◌↔◌, ℕ, ◌<◌, ◌≤◌, false, None, Some, List, [], ◌∷◌, length, map, slice_get}
use Rattle.std.specs.Prelude.{All, MatchOption, MatchResult, IsErrOf, IsTrue, Option, Result}
use Rattle.std.specs.Option.{option_map}
use Rattle.rw_law.specs.declared.limits.TheConstants.{MOST_ACTORS}
use Rattle.rw_world.specs.declared.opening.Spec.{Spec}
use Rattle.rw_world.specs.declared.channels.Chan.{Chan}
use Rattle.rw_world.specs.declared.channels.ChanCall.{ChanCall}
use Rattle.rw_world.specs.Channel.{strays_at}
use Rattle.rw_world.specs.Machines.{ChanShown, of_chan}
use Rattle.rw_world.specs.Openings.{has_bad_capacity, spec_kind, opened_channel, refusal}
use Rattle.rw_world.specs.Shapes.{stray_of}
use Rattle.rw_desk.specs.declared.faults.DeskFault.{DeskFault}
use Rattle.rw_desk.specs.declared.faults.DeskFault.TheVariants.{NoChannel}
use Rattle.rw_desk.specs.Desks.{row_call}
use Rattle.rw_desk.specs.Passes.{Pass}
use Rattle.rw_seat.specs.declared.answered.Answered.{Answered}
use Rattle.rw_seat.specs.HandOffs.{Home, HandOff}
use Rattle.rw_seat.specs.Fronts.{IsFaultAfter, IsFrontOf}
use Rattle.rw_seat.specs.DeskSeats.{DeskSeat, front_at, fresh_seat, HasCalled, HasSeen, IsElsewhereAsBefore}

-- what callers see of a desk: the specs of its channels, the number of its actors, and which hand-off each channel's book has
pub record SeatDesk (V : Type 0) : Type 0 where
  pub specs : List (Spec V)
  pub actors : ℕ
  pub homes : List (Home (Chan V))

module _ {V : Type 0} where
  -- what a hand-off's book showed before its first entry
  abbrev pub opening_at : Home (Chan V) → Option (ChanShown V)
  opening_at home = option_map (of_chan {V = V}).shown home.start

  -- the invariant of a desk: its specs open, it has 1 to 64 actors, and for each spec a hand-off of a book that was opened from it
  pub record IsSeatDesk (specs : List (Spec V)) (actors : ℕ) (hand_offs : List (HandOff (Chan V))) : Type 0 where
    pub opens : refusal specs ≡ None
    pub good : All (λ spec. has_bad_capacity spec ≡ false) specs
    pub some_actor : 0 < actors
    pub few_actors : actors ≤ MOST_ACTORS
    pub one_each : length hand_offs ≡ length specs
    pub opened : map (λ h. opening_at h.home) hand_offs ≡ map (λ spec. Some (opened_channel spec)) specs

  -- a seat of this desk: its `HandSeat`s are seats of the desk's hand-offs, and its fronts are fronts of the desk's channels
  pub record IsSeatOf (desk : SeatDesk V) (seat : DeskSeat V) : Type 0 where
    pub homes : map (λ h. h.home) seat.hand_seats ≡ desk.homes
    pub fronts : (c : ℕ) → IsFrontOf desk.specs c (front_at seat.hand_seats c)

  -- a desk with these specs and this many actors, with a seat for each actor, which has made no call and seen no entry
  pub record HasOpened (specs : List (Spec V)) (actors : ℕ) (desk : SeatDesk V) (seats : List (DeskSeat V)) : Type 0 where
    pub specs_are : desk.specs ≡ specs
    pub actors_are : desk.actors ≡ actors
    pub seats_are : (length seats ≡ actors) × ((a : ℕ) → a < actors → slice_get seats a ≡ Some (fresh_seat desk.homes a))
    pub of_desk : All (IsSeatOf desk) seats

  -- no call was made: the seat may have seen more of the channel, and after that the call has this fault
  pub record IsRefused (specs : List (Spec V)) (old new : DeskSeat V) (channel : ℕ) (call : ChanCall V) (fault : DeskFault) : Type 0 where
    pub seen : HasSeen old new
    pub reason : MatchOption (slice_get specs channel)
        (fault ≡ NoChannel)
        (λ spec. IsFaultAfter (opened_channel spec) (front_at new.hand_seats channel) old.pass.clock call fault)

  -- What a desk returns for a seat's call. The fault is `NoChannel` exactly if the call strays by the specs.
  pub record IsAnswered (specs : List (Spec V)) (old new : DeskSeat V) (channel : ℕ) (call : ChanCall V) (answer : Result (Answered V) DeskFault) : Type 0 where
    pub made : MatchResult answer (HasCalled old new channel call) (IsRefused specs old new channel call)
    pub elsewhere : IsElsewhereAsBefore channel old new
    pub no_channel : IsErrOf answer NoChannel ↔ IsTrue (stray_of strays_at (map spec_kind specs) (row_call channel call))

  -- the passes of seats
  abbrev pub passes_in : List (DeskSeat V) → List (Pass V)
  passes_in seats = map (λ s. s.pass) seats

  -- the first seat may have seen more, and the others are unchanged
  abbrev pub FirstHasSeen : List (DeskSeat V) → List (DeskSeat V) → Type 0
  FirstHasSeen [] [] = Unit {0}
  FirstHasSeen (s ∷ ss) (t ∷ ts) = HasSeen s t × (ts ≡ ss)
  FirstHasSeen ss ts = ⊥
