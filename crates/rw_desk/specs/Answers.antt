-- What the calls by handles return.
use Rattle.std.specs.Prelude.{◌≡◌, ◌≢◌, ℕ, List, IfOk, IfErr, Result, Ok, Err}
use Rattle.rw_broadcast.specs.declared.calls.BCall.{BCall}
use Rattle.rw_broadcast.specs.declared.calls.BReply.{BReply}
use Rattle.rw_broadcast.specs.declared.calls.BReply.TheVariants as b
use Rattle.rw_watch.specs.declared.calls.WCall.{WCall}
use Rattle.rw_watch.specs.declared.calls.WReply.{WReply}
use Rattle.rw_watch.specs.declared.calls.WReply.TheVariants as w
use Rattle.rw_world.specs.declared.channels.ChanCall.TheVariants as call
use Rattle.rw_world.specs.declared.channels.ChanReply.TheVariants as reply
use Rattle.rw_world.specs.declared.opening.Spec.{Spec}
use Rattle.rw_world.specs.declared.channels.ChanCall.{ChanCall}
use Rattle.rw_world.specs.declared.channels.ChanReply.{ChanReply}
use Rattle.rw_desk.specs.declared.faults.DeskFault.{DeskFault}
use Rattle.rw_desk.specs.declared.handles.BTx.{BTx}
use Rattle.rw_desk.specs.declared.handles.BRx.{BRx}
use Rattle.rw_desk.specs.declared.handles.WTx.{WTx}
use Rattle.rw_desk.specs.declared.handles.WRx.{WRx}
use Rattle.rw_desk.specs.declared.made.Made.{Made}
use Rattle.rw_desk.specs.declared.made.Made.TheVariants.{New, Refused}
use Rattle.rw_desk.specs.Desks.{IsAnswered}
use Rattle.rw_desk.specs.Passes.{Pass}

-- the result of a call without the handle that is returned with a fault
abbrev pub fault_alone : {X H : Type 0} → Result X (DeskFault × H) → Result X DeskFault
fault_alone (Ok x) = Ok x
fault_alone (Err e) = Err e.0

-- the reply of a call that makes a handle, from its result
abbrev pub reply_made : {H R : Type 0} → (new : ℕ → R) → (number : H → ℕ) → Made H R → R
reply_made new number (New h) = new (number h)
reply_made new number (Refused r) = r

-- a new handle is on this channel, and a refusal isn't the reply `New`
abbrev pub IsMadeOn : {H R : Type 0} → (new : ℕ → R) → (channel_of : H → ℕ) → ℕ → Made H R → Type 0
IsMadeOn new channel_of channel (New h) = channel_of h ≡ channel
IsMadeOn new channel_of channel (Refused r) = (n : ℕ) → r ≢ new n

module _ {V : Type 0} (specs : List (Spec V)) (old after : Pass V) (channel : ℕ) where
  -- this is the result of a call of a broadcast channel
  abbrev pub IsAnsweredB : BCall V → Result (BReply V) DeskFault → Type 0
  IsAnsweredB c answer = IsAnswered specs old after channel (call.B c) (λ r. reply.B r) answer

  -- this is the result of a call of a watch channel
  abbrev pub IsAnsweredW : WCall V → Result (WReply V) DeskFault → Type 0
  IsAnsweredW c answer = IsAnswered specs old after channel (call.W c) (λ r. reply.W r) answer

  -- this is the result of a call that makes a handle: the handle has the receipt's channel, and the number in its reply
  pub record IsMaking {H R : Type 0} (c : ChanCall V) (new : ℕ → R) (tell : R → ChanReply V)
      (channel_of number : H → ℕ) (answer : Result (Made H R) DeskFault) : Type 0 where
    pub answered : IsAnswered specs old after channel c (λ made. tell (reply_made new number made)) answer
    pub made : IfOk answer (IsMadeOn new channel_of channel)

  abbrev pub MakesBTx : BCall V → Result (Made BTx (BReply V)) DeskFault → Type 0
  MakesBTx c answer = IsMaking (call.B c) (λ n. b.New n) (λ r. reply.B r) (λ h. h.channel) (λ h. h.number) answer

  abbrev pub MakesBRx : BCall V → Result (Made BRx (BReply V)) DeskFault → Type 0
  MakesBRx c answer = IsMaking (call.B c) (λ n. b.New n) (λ r. reply.B r) (λ h. h.channel) (λ h. h.number) answer

  abbrev pub MakesWTx : WCall V → Result (Made WTx (WReply V)) DeskFault → Type 0
  MakesWTx c answer = IsMaking (call.W c) (λ n. w.New n) (λ r. reply.W r) (λ h. h.channel) (λ h. h.number) answer

  abbrev pub MakesWRx : WCall V → Result (Made WRx (WReply V)) DeskFault → Type 0
  MakesWRx c answer = IsMaking (call.W c) (λ n. w.New n) (λ r. reply.W r) (λ h. h.channel) (λ h. h.number) answer

  -- this is the result of a call that drops its handle; at a fault the handle is returned
  pub record IsDropping {H R : Type 0} (c : ChanCall V) (tell : R → ChanReply V) (handle : H) (answer : Result R (DeskFault × H)) : Type 0 where
    pub answered : IsAnswered specs old after channel c tell (fault_alone answer)
    pub back : IfErr answer (λ e. e.1 ≡ handle)
