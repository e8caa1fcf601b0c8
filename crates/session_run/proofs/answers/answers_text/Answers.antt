use Rattle.std.proofs.Common.{◌≡◌, ◌++◌, ◌⊎◌, ⊎_elim, List, [], ◌∷◌, refl, sym, ap, ◌∙◌, append-nil}
use Rattle.std.proofs.lemmas.Slice.Zip.{either_empty_from_Zip}
use Rattle.std.specs.String.{string_bytes}
use Rattle.calls.specs.Answers.{Answer}
use Rattle.session_file.specs.declared.session.LineCall.{LineCall}
use Rattle.session_run.specs.Texts.{answer_lines}
use Rattle.session_run.proofs.answers.answers_text.Goals as goal

no_lines : (calls : List LineCall) (answers : List Answer) → (calls ≡ []) ⊎ (answers ≡ []) → answer_lines calls answers ≡ []
no_lines [] answers ended = refl
no_lines (call ∷ calls) [] ended = refl
no_lines (call ∷ calls) (answer ∷ answers) ended =
    ⊎_elim (λ (is : call ∷ calls ≡ []). absurd (cc)) (λ (is : answer ∷ answers ≡ []). absurd (cc)) ended

-- where the calls or the answers are at their end no line is left
pub returns : goal.returns
returns c =
    let ended = either_empty_from_Zip c.loop-call.call-iterator c.next.new.self c.next.result c.in-None.is c.next.ensures.steps in
    let text = string_bytes c.loop-call.text in
    sym (append-nil text) ∙ ap (λ lines. text ++ lines) (sym (no_lines _ _ ended)) ∙ c.loop-call.invariant
