-- What a step of a site's event expression tells.
use Rattle.std.proofs.Common.{arith, ◌≡◌, ◌-◌, ℕ, ℤ, false, [], sym, ap, ◌∙◌}
use Rattle.typed_program.specs.declared.program.Program.{Program}
use Rattle.typed_program.specs.declared.program.Site.{Site}
use Rattle.term_meaning.specs.declared.progress.Stepped.{Stepped}
use Rattle.term_meaning.specs.declared.stimulus.Stimulus.{Stimulus}
use Rattle.term_meaning.specs.Active.{fitted}
use Rattle.term_meaning.specs.Patterns.{pattern_of}
use Rattle.term_meaning.specs.Step.{is_gone, still}
use Rattle.term_meaning.specs.UnderWay.{left_of, setting_of, stepped_in}
use Rattle.term_meaning.specs.Waits.{GoesOn, waits_in}
use Rattle.term_meaning.proofs.Fitted.{fitted_told}
use Rattle.term_meaning.proofs.Still.{nothing_stepped}
use Rattle.event_terms.specs.declared.state.StepOut.{StepOut}
use Rattle.event_terms.specs.States.{SiteExpression, Steps}

none_less : (n : ℕ) → 0 ≡ n - n
none_less n = omega arith

module _ (program : Program) (s : Stimulus) (now : ℤ) (old : SiteExpression) where
  abbrev at : Site → Stepped
  at found = stepped_in (setting_of program.types found old.expression.operands now) s old.expression

  -- what is told of the fit where nothing waits
  pub still_fitted : Site → GoesOn old.expression.progress → waits_in s old.expression.progress ≡ false → false ≡ fitted old.expression.progress s
  still_fitted site on quiet =
      let setting = setting_of program.types site old.expression.operands now in
      sym (ap (λ (a : Stepped). a.fitted) (nothing_stepped setting s old.expression.progress (pattern_of site.term) [] old.expression.next on quiet))
      ∙ fitted_told setting s old.expression.progress (pattern_of site.term) [] old.expression.next

  -- a step of an expression in which nothing waits
  pub still_steps : (out : StepOut) → GoesOn old.expression.progress → waits_in s old.expression.progress ≡ false
      → out.completions ≡ [] → out.ended ≡ is_gone old.expression.progress → out.fitted ≡ false → out.begun ≡ 0 → Steps program s now old out old
  still_steps out on quiet completions ended unfitted begun = record {
    moves = λ found there.
        let none : at found ≡ still old.expression.progress old.expression.next =
        nothing_stepped (setting_of program.types found old.expression.operands now) s old.expression.progress (pattern_of found.term) [] old.expression.next on quiet in
        record {
          after = ap (λ a. record { site = old.site; expression = left_of old.expression a }) (sym none);
          completions = completions ∙ ap (λ (a : Stepped). a.completions) (sym none);
          ended = ended ∙ ap (λ (a : Stepped). is_gone a.left) (sym none);
          fitted = unfitted ∙ ap (λ (a : Stepped). a.fitted) (sym none);
          begun = begun ∙ none_less old.expression.next ∙ ap (λ (a : Stepped). a.next - old.expression.next) (sym none);
        };
  }
