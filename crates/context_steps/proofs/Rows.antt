-- Effects in a row.
use Rattle.std.proofs.Common.{◌∷◌, ◌++◌, ◌≡◌, ◌≤◌}
use Rattle.context_steps.proofs.Common.{ℕ, Bool, true, false, cond, List, [], Option, Some, None, length, slice_get, refl, sym, ap, subst, ◌∙◌, Value, Program, Site, Effect, Context, with_some, apply, apply_all}
use Rattle.std.proofs.lemmas.Option.{slice_get_past}
use Rattle.action_host.specs.declared.host.Effect.TheVariants as effect
use Rattle.record_book.specs.Fits.{IsTime}
use Rattle.term_meaning.specs.UnderWay.{begun_in, setting_of}
use Rattle.context_meaning.specs.Contexts.{with_listener}
use Rattle.context_meaning.specs.Ends.{listening}

-- where a site isn't there nothing begins
pub no_site : (program : Program) (instance site : ℕ) (operands captured : List Value) (c : Context) → length program.sites ≤ site → c ≡ listening program instance site operands captured c
no_site program instance site operands captured c past = sym (ap (λ (o : Option Site). with_some o (λ s d. with_listener instance site captured (begun_in (setting_of program.types s operands d.clock)) d) c) (slice_get_past program.sites site past))

module _ (program : Program) where
  -- effects, and then further ones
  pub apply_all_both : (i : ℕ) (ending : Bool) (es fs : List Effect) (c : Context) → apply_all program i ending (es ++ fs) c ≡ apply_all program i ending fs (apply_all program i ending es c)
  apply_all_both i ending [] fs c = refl
  apply_all_both i ending (e ∷ es) fs c = apply_all_both i ending es fs (apply program i ending e c)

  -- one effect more
  pub apply_all_more : (i : ℕ) (ending : Bool) (es : List Effect) (e : Effect) (c d r : Context) → d ≡ apply_all program i ending es c → r ≡ apply program i ending e d → r ≡ apply_all program i ending (es ++ e ∷ []) c
  apply_all_more i ending es e c d r so then = then ∙ ap (apply program i ending e) so ∙ sym (apply_all_both i ending es (e ∷ []) c)

-- fuel, instances, the count of those that were begun, and the clock stay
pub record Rests (c d : Context) : Type 0 where
  pub fuel : d.fuel ≡ c.fuel
  pub begun : d.begun ≡ c.begun
  pub instances : d.instances ≡ c.instances
  pub clock : d.clock ≡ c.clock

rests_same : (c : Context) → Rests c c
rests_same c = record { fuel = refl; begun = refl; instances = refl; clock = refl }

rests_then : (c d e : Context) → Rests c d → Rests d e → Rests c e
rests_then c d e a b = record { fuel = b.fuel ∙ a.fuel; begun = b.begun ∙ a.begun; instances = b.instances ∙ a.instances; clock = b.clock ∙ a.clock }

module _ (program : Program) where
  listening_rests : (i site : ℕ) (operands captured : List Value) (c : Context) → Rests c (listening program i site operands captured c)
  listening_rests i site operands captured c = by (slice_get program.sites site)
    where
      by : (o : Option Site) → Rests c (with_some o (λ s d. with_listener i site captured (begun_in (setting_of program.types s operands d.clock)) d) c)
      by None = rests_same c
      by (Some s) = record { fuel = refl; begun = refl; instances = refl; clock = refl }

  unless_ending : (b : Bool) (c d : Context) → Rests c d → Rests c (cond b c d)
  unless_ending true c d h = rests_same c
  unless_ending false c d h = h

  -- behind an effect
  apply_rests : (i : ℕ) (ending : Bool) (e : Effect) (c : Context) → Rests c (apply program i ending e c)
  apply_rests i ending (effect.Print text) c = record { fuel = refl; begun = refl; instances = refl; clock = refl }
  apply_rests i ending (effect.Log level text) c = record { fuel = refl; begun = refl; instances = refl; clock = refl }
  apply_rests i ending (effect.Listen site operands captured) c = unless_ending ending c (listening program i site operands captured c) (listening_rests i site operands captured c)
  apply_rests i ending (effect.Quit birth) c = record { fuel = refl; begun = refl; instances = refl; clock = refl }
  apply_rests i ending (effect.Route event) c = record { fuel = refl; begun = refl; instances = refl; clock = refl }
  apply_rests i ending other c = rests_same c

  -- behind effects
  pub apply_all_rests : (i : ℕ) (ending : Bool) (es : List Effect) (c : Context) → Rests c (apply_all program i ending es c)
  apply_all_rests i ending [] c = rests_same c
  apply_all_rests i ending (e ∷ es) c = rests_then c (apply program i ending e c) (apply_all program i ending es (apply program i ending e c)) (apply_rests i ending e c) (apply_all_rests i ending es (apply program i ending e c))

  -- what was begun behind effects
  pub still_begun : (i : ℕ) (ending : Bool) (es : List Effect) (c d : Context) → d ≡ apply_all program i ending es c → i ≤ c.begun → i ≤ d.begun
  still_begun i ending es c d so h = subst (λ n. i ≤ n) (sym (ap (λ (x : Context). x.begun) so ∙ (apply_all_rests i ending es c).begun)) h

  -- and the clock
  pub still_time : (i : ℕ) (ending : Bool) (es : List Effect) (c d : Context) → d ≡ apply_all program i ending es c → IsTime c.clock → IsTime d.clock
  still_time i ending es c d so h = subst IsTime (sym (ap (λ (x : Context). x.clock) so ∙ (apply_all_rests i ending es c).clock)) h
