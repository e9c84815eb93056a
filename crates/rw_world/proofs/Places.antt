-- What a world shows at the places of its journal, and the replies that are recorded there.
use Rattle.std.proofs.Common.{◌≡◌, ℕ, zero, suc, ◌+◌, ◌<◌, true, List, [], ◌∷◌, length, get_or, map, take, Some, refl, sym, ap, subst, ◌∙◌, arith}
use Rattle.std.specs.Prelude.{slice_get}
use Rattle.rw_law.specs.Journal.{after_all, after, IsLegal, IsStep}
use Rattle.rw_law.proofs.Journals.{after_more, step_at, after_all-allowed}
use Rattle.rw_world.specs.declared.opening.Spec.{Spec}
use Rattle.rw_world.specs.Channel.{no_channel}
use Rattle.rw_world.specs.Machines.{ChanShown, of_chan, of_world}
use Rattle.rw_world.specs.Openings.{opening_row}
use Rattle.rw_world.specs.Records.{shown_after, calls_before, records_at, documented_at, reply_from, ShowsAtPlaces, RecordsAsDocumented}
use Rattle.rw_world.specs.RowLaws.{row_laws}
use Rattle.rw_world.specs.Specified.{WorldEntry}
use Rattle.rw_world.proofs.Documenting.{chan_laws, allowed_opened, shows_opened, shows_its_records, replies_by_records}

-- what is found at an index is within the list, and is read there with any default
read_at : {E : Type 0} (es : List E) (n : ℕ) (e : E) → slice_get es n ≡ Some e → (n < length es) × (get_or es n e ≡ e)
read_at [] n e here = cc
read_at (f ∷ es) zero e here = (omega arith, cc)
read_at (f ∷ es) (suc n) e here = let rest = read_at es n e here in let below : n < length es = rest.0 in (omega arith, rest.1)

module _ {V : Type 0} where
  -- entries lead where their calls lead
  calls_lead : (xs : List (ChanShown V)) (es : List (WorldEntry V)) → after_all of_world xs es ≡ shown_after xs (map (λ e. e.call) es)
  calls_lead xs [] = refl
  calls_lead xs (e ∷ es) = calls_lead ((of_world {V = V}).next xs e.call) es

  shown_at : (specs : List (Spec V)) (es : List (WorldEntry V)) (n : ℕ) → after of_world (opening_row specs) es n ≡ documented_at specs es n
  shown_at specs es n = calls_lead (opening_row specs) (take n es) ∙ sym (shows_its_records V specs (calls_before es n))

  -- the entry is the step of its call where the entries before it lead
  step_here : (specs : List (Spec V)) (es : List (WorldEntry V)) (n : ℕ) (e : WorldEntry V) → IsLegal of_world (opening_row specs) es → slice_get es n ≡ Some e
      → IsStep of_world (after of_world (opening_row specs) es n) e
  step_here specs es n e legal here =
      let read = read_at es n e here in
      subst (λ f. IsStep of_world (after of_world (opening_row specs) es n) f) read.1 (step_at of_world (opening_row specs) es n e legal read.0)

  documented_reply : (specs : List (Spec V)) (es : List (WorldEntry V)) (n : ℕ) (e : WorldEntry V) → IsLegal of_world (opening_row specs) es
      → slice_get es n ≡ Some e
      → e.reply ≡ reply_from (records_at specs es n) e.call
  documented_reply specs es n e legal here =
      let reply_to = λ (xs : List (ChanShown V)). (of_world {V = V}).reply_of xs e.call in
      (step_here specs es n e legal here).reply ∙ ap reply_to (calls_lead (opening_row specs) (take n es))
      ∙ replies_by_records V specs (calls_before es n) e.call

  allowed_at : (specs : List (Spec V)) (es : List (WorldEntry V)) (n : ℕ) → (of_world {V = V}).allowed (after of_world (opening_row specs) es n)
  allowed_at specs es n =
      let opening : (of_world {V = V}).allowed (opening_row specs) = subst (of_world {V = V}).allowed (shows_opened specs) (allowed_opened specs) in
      after_all-allowed of_world (row_laws of_chan no_channel chan_laws) (opening_row specs) (take n es) opening

  refused_stays : (specs : List (Spec V)) (es : List (WorldEntry V)) (n : ℕ) (e : WorldEntry V) → IsLegal of_world (opening_row specs) es
      → slice_get es n ≡ Some e
      → (of_world {V = V}).refuses e.reply ≡ true → documented_at specs es (n + 1) ≡ documented_at specs es n
  refused_stays specs es n e legal here refuses =
      let read = read_at es n e here in
      let x : List (ChanShown V) = after of_world (opening_row specs) es n in
      let refused : (of_world {V = V}).refuses ((of_world {V = V}).reply_of x e.call) ≡ true =
      ap (of_world {V = V}).refuses (sym (step_here specs es n e legal here).reply) ∙ refuses in
      let stays : (of_world {V = V}).next x e.call ≡ x = (row_laws (of_chan {V = V}) no_channel chan_laws).refused x e.call (allowed_at specs es n) refused in
      sym (shown_at specs es (n + 1))
      ∙ after_more of_world (opening_row specs) es n e read.0
      ∙ ap (λ (f : WorldEntry V). (of_world {V = V}).next x f.call) read.1
      ∙ stays ∙ shown_at specs es n

pub shows_at_places : (V : Type 0) → ShowsAtPlaces V
shows_at_places V specs es n = shown_at specs es n

pub records_as_documented : (V : Type 0) → RecordsAsDocumented V
records_as_documented V specs es legal = record {
  reply = λ n e here. documented_reply specs es n e legal here;
  refused = λ n e here refuses. refused_stays specs es n e legal here refuses;
}
