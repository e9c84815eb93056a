-- What the search for closings keeps of a channel while it passes over its entries: nothing until the channel closes.
use Rattle.std.specs.Prelude.{◌≡◌, ◌<◌, ◌≤◌, ◌^◌, ℕ, zero, suc, ◌+◌, if◌then◌else◌, List, [], ◌∷◌, ◌++◌, length}
use Rattle.std.specs.Prelude.{map, Option, Some, None, is_none, option_map, slice_set, slice_get, slice_index_or}
use Rattle.rw_handles.specs.declared.table.TheConstants.{MOST_HANDLES}
use Rattle.rw_world.specs.declared.opening.Spec.{Spec}
use Rattle.rw_world.specs.Lists.{map_at}
use Rattle.rw_world.specs.Machines.{ChanShown, handles_made}
use Rattle.rw_world.specs.Specified.{WorldEntry}
use Rattle.rw_findings.specs.Closings.{got_by, told_by, is_there}
use Rattle.rw_navigator.specs.Conditions.{closed_at, has}
use Rattle.rw_findings.specs.declared.closings.closing.Closing.{Closing}
use Rattle.rw_findings.specs.declared.closings.closing.LateReader.{LateReader}
use Rattle.rw_findings.specs.declared.closings.closed_channel.Reader.{Reader}

-- the place of the closing, and each receiver that was there then, under its handle's number
pub record ClosedChannel : Type 0 where
  pub place : ℕ
  pub readers : List (Option Reader)

abbrev pub new_reader : Reader
new_reader = record { told = None; read_on = 0 }

abbrev pub reader_in : ClosedChannel → ℕ → Option Reader
reader_in k h = slice_index_or k.readers h None

abbrev pub after_receipt : Reader → Reader
after_receipt r = record r { read_on = r.read_on + 1 }

abbrev pub after_told : (place : ℕ) → Reader → Reader
after_told place r = record r { told = if is_none r.told then Some place else r.told }

-- with another reader under a handle's number, if there is one
abbrev pub with_change : (Reader → Reader) → ClosedChannel → Option ℕ → ClosedChannel
with_change change k None = k
with_change change k (Some h) = record k { readers = slice_set k.readers h (option_map change (reader_in k h)) }

-- how many handles a channel has made
abbrev pub made_by : {V : Type 0} → Option (ChanShown V) → ℕ
made_by None = 0
made_by (Some x) = handles_made x

module _ {V : Type 0} where
  -- at their opening all channels are open
  abbrev pub opened : List (Spec V) → List (Option ClosedChannel)
  opened specs = map (λ spec. None) specs

  -- the receivers among the first handles of a channel
  abbrev pub readers_there : List (ChanShown V) → (channel : ℕ) → (handles : ℕ) → List (Option Reader)
  readers_there xs channel zero = []
  readers_there xs channel (suc h) = readers_there xs channel h ++ (if is_there xs channel h then Some new_reader else None) ∷ []

  -- a channel that closes where this is shown
  abbrev pub closed_now : List (ChanShown V) → (channel place : ℕ) → ClosedChannel
  closed_now xs channel place = record { place = place; readers = readers_there xs channel (made_by (slice_get xs channel)) }

  -- a channel after an entry that leads to this place, where this is shown
  abbrev pub after_entry : List (ChanShown V) → WorldEntry V → (place : ℕ) → Option ClosedChannel → Option ClosedChannel
  after_entry xs e place None = if has (λ closed. closed) (closed_at xs e.call.channel) then Some (closed_now xs e.call.channel place) else None
  after_entry xs e place (Some k) =
      Some (with_change (after_told place) (with_change after_receipt k (got_by e.call.call e.reply)) (told_by e.call.call e.reply))

  abbrev pub with_entry : List (ChanShown V) → List (Option ClosedChannel) → WorldEntry V → (place : ℕ) → List (Option ClosedChannel)
  with_entry xs ks e place = map_at (after_entry xs e place) ks e.call.channel

-- the counts can grow by one
abbrev pub ReadersHaveRoom : ClosedChannel → Type 0
ReadersHaveRoom k = (h : ℕ) (r : Reader) → reader_in k h ≡ Some r → r.read_on < 2 ^ 63

abbrev pub HasRoom : Option ClosedChannel → Type 0
HasRoom None = Unit {0}
HasRoom (Some k) = ReadersHaveRoom k

abbrev pub HaveRoom : List (Option ClosedChannel) → Type 0
HaveRoom ks = (channel : ℕ) (o : Option ClosedChannel) → slice_get ks channel ≡ Some o → HasRoom o

-- each channel has at most as many handles as it can make
abbrev pub HaveFewHandles : List (Option ClosedChannel) → Type 0
HaveFewHandles ks = (channel : ℕ) (k : ClosedChannel) → slice_get ks channel ≡ Some (Some k) → length k.readers ≤ MOST_HANDLES

-- ---- the lists

abbrev pub with_closing : List Closing → (channel : ℕ) → Option (Option ClosedChannel) → List Closing
with_closing closings channel (Some (Some k)) = closings ++ record { channel = channel; place = k.place } ∷ []
with_closing closings channel _ = closings

abbrev pub with_closings : List Closing → List (Option ClosedChannel) → (channels : ℕ) → List Closing
with_closings closings ks zero = closings
with_closings closings ks (suc channel) = with_closing (with_closings closings ks channel) channel (slice_get ks channel)

abbrev pub with_reader : List LateReader → (channel receiver : ℕ) → Option Reader → List LateReader
with_reader readers channel receiver None = readers
with_reader readers channel receiver (Some r) = readers ++ record { channel = channel; receiver = receiver; told = r.told; read_on = r.read_on } ∷ []

abbrev pub with_readers : List LateReader → ClosedChannel → (channel : ℕ) → (receivers : ℕ) → List LateReader
with_readers readers k channel zero = readers
with_readers readers k channel (suc receiver) = with_reader (with_readers readers k channel receiver) channel receiver (reader_in k receiver)

abbrev pub with_readers_of : List LateReader → Option (Option ClosedChannel) → (channel : ℕ) → List LateReader
with_readers_of readers (Some (Some k)) channel = with_readers readers k channel (length k.readers)
with_readers_of readers _ channel = readers

abbrev pub with_all_readers : List LateReader → List (Option ClosedChannel) → (channels : ℕ) → List LateReader
with_all_readers readers ks zero = readers
with_all_readers readers ks (suc channel) = with_readers_of (with_all_readers readers ks channel) (slice_get ks channel) channel
