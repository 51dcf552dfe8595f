-- A listener is born.
use Rattle.std.proofs.Common.{◌+◌, ◌<◌, ◌≤◌, ◌∷◌, ◌++◌, ◌≡◌, ⊎_elim}
use Rattle.std.proofs.lemmas.Option.{slice_get_cases}
use Rattle.typed_program.specs.declared.program.Program.{Program}
use Rattle.typed_program.specs.declared.program.Site.{Site}
use Rattle.term_meaning.specs.UnderWay.{begun_in, setting_of}
use Rattle.event_terms.specs.States.{SiteExpression}
use Rattle.context_meaning.specs.Contexts.{Context, is_busy, with_listener, with_some, without_listeners}
use Rattle.context_meaning.specs.Ends.{listening}
use Rattle.live_context.proofs.Common.{ℕ, List, [], length, Option, Some, None, false, slice_get, refl, ap, ◌∙◌, arith, Value, Instance, Listener}
use Rattle.live_context.proofs.Counting.{idle_stay}

not_past : {A : Type 0} (xs : List A) (at : ℕ) → at < length xs → slice_get xs at ≡ None → ⊥
not_past xs at within none = ⊎_elim (λ here. cc) (λ past. let far : length xs ≤ at = past.0 in omega arith) (slice_get_cases xs at).1

module _ (program : Program) (instance site : ℕ) (operands captured : List Value) (next : ℕ) (ls : List Listener) (is : List Instance) (state : SiteExpression) where
  born_now : (c : Context) → site < length program.sites → next ≡ c.births + 1 → ((found : Site) → slice_get program.sites site ≡ Some found → state ≡ record { site = site; expression = begun_in (setting_of program.types found operands c.clock) }) → ls ≡ c.listeners ++ (record { birth = next; instance = instance; site = state.site; captured = captured; expression = state.expression }) ∷ [] → is ≡ c.instances → record c { births = next; listeners = ls; instances = is } ≡ listening program instance site operands captured c
  born_now c within next_is state_is ls_is is_is = go (slice_get program.sites site) refl
    where
      go : (o : Option Site) → slice_get program.sites site ≡ o → record c { births = next; listeners = ls; instances = is } ≡ with_some o (λ s d. with_listener instance site captured (begun_in (setting_of program.types s operands d.clock)) d) c
      go None e = absurd (not_past program.sites site within e)
      go (Some found) e =
          let listeners = ls_is ∙ ap (λ (x : SiteExpression). c.listeners ++ (record { birth = next; instance = instance; site = x.site; captured = captured; expression = x.expression }) ∷ []) (state_is found e) in
          ap (λ xs. record c { births = next; listeners = xs; instances = is }) listeners
          ∙ ap (λ xs. record c { births = next; listeners = c.listeners ++ (record { birth = next; instance = instance; site = site; captured = captured; expression = begun_in (setting_of program.types found operands c.clock) }) ∷ []; instances = xs }) is_is
          ∙ ap (λ n. record c { births = n; listeners = c.listeners ++ (record { birth = n; instance = instance; site = site; captured = captured; expression = begun_in (setting_of program.types found operands c.clock) }) ∷ [] }) next_is

  -- what is kept shows as the context
  pub born_shown : (seen c : Context) → seen ≡ c → site < length program.sites → next ≡ seen.births + 1 → ((found : Site) → slice_get program.sites site ≡ Some found → state ≡ record { site = site; expression = begun_in (setting_of program.types found operands seen.clock) }) → ls ≡ seen.listeners ++ (record { birth = next; instance = instance; site = state.site; captured = captured; expression = state.expression }) ∷ [] → is ≡ seen.instances → record seen { births = next; listeners = ls; instances = is } ≡ listening program instance site operands captured c
  born_shown seen c same within next_is state_is ls_is is_is = born_now seen within next_is state_is ls_is is_is ∙ ap (listening program instance site operands captured) same

-- where an instance has none, none goes
pub idle_is : (instance : ℕ) (c : Context) → is_busy instance c ≡ false → c ≡ without_listeners instance c
idle_is instance c idle = ap (λ xs. record c { listeners = xs }) (idle_stay instance c.listeners idle)
