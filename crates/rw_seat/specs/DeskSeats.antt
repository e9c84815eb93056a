-- Seats of a desk.
use Rattle.std.specs.Prelude.{◌≡◌, ◌≢◌, ℕ, ◌<◌, List, [], ◌∷◌, ◌++◌, map, get_or, All}
use Rattle.rw_world.specs.declared.channels.Chan.{Chan}
use Rattle.rw_world.specs.declared.channels.ChanCall.{ChanCall}
use Rattle.rw_world.specs.Specified.{ChanEntry}
use Rattle.rw_desk.specs.Passes.{Pass, with_receipt, fresh_pass}
use Rattle.rw_seat.specs.declared.answered.Answered.{Answered}
use Rattle.rw_seat.specs.HandOffs.{Home, HandSeat}
use Rattle.rw_seat.specs.Fronts.{EndsWithCall, HasGoneOn, kept_on, own_on}

-- a seat's `HandSeat` at one channel
abbrev pub ChannelSeat : Type 0 → Type 0
ChannelSeat V = HandSeat (ChanEntry V) (Chan V)

-- what callers see of a seat: its actor, clock and receipts, as a pass, and a `HandSeat` for each channel
pub record DeskSeat (V : Type 0) : Type 0 where
  pub pass : Pass V
  pub hand_seats : List (ChannelSeat V)

module _ {V : Type 0} where
  -- the front of the `HandSeat` at channel c, empty if there is none
  abbrev pub front_at : List (ChannelSeat V) → ℕ → List (ChanEntry V)
  front_at hand_seats c = get_or (map (λ h. h.front) hand_seats) c []

  -- the invariant of a seat: its `HandSeat`s have the actor's number; on each channel its actor's entries in the front are its receipts there,
  -- each once and in order
  pub record IsDeskSeat (pass : Pass V) (hand_seats : List (ChannelSeat V)) : Type 0 where
    pub numbers : All (λ h. h.number ≡ pass.actor) hand_seats
    pub own : (c : ℕ) → own_on pass.actor c (front_at hand_seats c) ≡ kept_on c pass.kept

  -- a `HandSeat` that has seen nothing, and a seat before its first call
  abbrev pub fresh_hand_seat : ℕ → Home (Chan V) → ChannelSeat V
  fresh_hand_seat actor home = record { number = actor; home = home; front = [] }

  abbrev pub fresh_seat : List (Home (Chan V)) → ℕ → DeskSeat V
  fresh_seat homes actor = record { pass = fresh_pass actor; hand_seats = map (fresh_hand_seat actor) homes }

  -- a seat with one more `HandSeat`
  abbrev pub with_hand_seat : DeskSeat V → ChannelSeat V → DeskSeat V
  with_hand_seat s h = record { pass = s.pass; hand_seats = s.hand_seats ++ h ∷ [] }

  -- the seat may have seen more, and made no call: each front goes on with no entry by its actor
  pub record HasSeen (old new : DeskSeat V) : Type 0 where
    pub pass : new.pass ≡ old.pass
    pub fronts : (c : ℕ) → HasGoneOn old.pass.actor (front_at old.hand_seats c) (front_at new.hand_seats c)

  -- each front but this channel's is unchanged
  abbrev pub IsElsewhereAsBefore : ℕ → DeskSeat V → DeskSeat V → Type 0
  IsElsewhereAsBefore channel old new = (c : ℕ) → c ≢ channel → front_at new.hand_seats c ≡ front_at old.hand_seats c

  -- A call was made. Its channel's front begins with what the seat had seen there and ends with the call. The seat has its receipt, with a
  -- stamp above all earlier ones. Its entries in each front are its receipts.
  pub record HasCalled (old new : DeskSeat V) (channel : ℕ) (call : ChanCall V) (answer : Answered V) : Type 0 where
    pub front : EndsWithCall old.pass.actor call answer (front_at old.hand_seats channel) (front_at new.hand_seats channel)
    pub above : old.pass.clock < answer.stamp
    pub pass : new.pass ≡ with_receipt old.pass channel answer.stamp call answer.reply
    pub own : (c : ℕ) → own_on new.pass.actor c (front_at new.hand_seats c) ≡ kept_on c new.pass.kept
