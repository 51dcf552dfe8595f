-- What shapes a value has, by its kind.
use Rattle.value_rules.proofs.Common.{ℕ, Bool, List, map, sym, ap, ◌∙◌, Shape, out-Shape, EventShape, Value, Pair, fits, pair_has}
use Rattle.std.proofs.Common.{◌≡◌, ◌&&◌, ℤ}
use Rattle.epl_values.specs.declared.value.Value.{fold-roll-Value}
use Rattle.epl_values.specs.declared.value.Value.TheOpen as layer
use Rattle.epl_values.specs.declared.value.Value.TheVariants as value
use Rattle.epl_values.specs.declared.value.Pair.{fold_out-Pair}
use Rattle.value_rules.specs.Shapes.{Fit, PairFit, pair_fits, has}

module _ (types : List EventShape) where
  pub has-integer : (n : ℤ) (s : Shape) → has types (value.Integer n) s ≡ fits types (layer.Integer n) (out-Shape s)
  has-integer n s = ap (λ v. has types v s) (sym (value.rolls-Integer n)) ∙ ap (λ (f : Fit). f s) (fold-roll-Value Fit PairFit (λ v t. fits types v (out-Shape t)) pair_fits (layer.Integer n))

  pub has-boolean : (b : Bool) (s : Shape) → has types (value.Boolean b) s ≡ fits types (layer.Boolean b) (out-Shape s)
  has-boolean b s = ap (λ v. has types v s) (sym (value.rolls-Boolean b)) ∙ ap (λ (f : Fit). f s) (fold-roll-Value Fit PairFit (λ v t. fits types v (out-Shape t)) pair_fits (layer.Boolean b))

  pub has-text : (bytes : List ℕ) (s : Shape) → has types (value.Text bytes) s ≡ fits types (layer.Text bytes) (out-Shape s)
  has-text bytes s = ap (λ v. has types v s) (sym (value.rolls-Text bytes)) ∙ ap (λ (f : Fit). f s) (fold-roll-Value Fit PairFit (λ v t. fits types v (out-Shape t)) pair_fits (layer.Text bytes))

  pub has-sequence : (items : List Value) (s : Shape) → has types (value.Sequence items) s ≡ fits types (layer.Sequence (map (has types) items)) (out-Shape s)
  has-sequence items s = ap (λ v. has types v s) (sym (value.rolls-Sequence items)) ∙ ap (λ (f : Fit). f s) (fold-roll-Value Fit PairFit (λ v t. fits types v (out-Shape t)) pair_fits (layer.Sequence items))

  pub has-dictionary : (pairs : List Pair) (s : Shape) → has types (value.Dictionary pairs) s ≡ fits types (layer.Dictionary (map (pair_has types) pairs)) (out-Shape s)
  has-dictionary pairs s = ap (λ v. has types v s) (sym (value.rolls-Dictionary pairs)) ∙ ap (λ (f : Fit). f s) (fold-roll-Value Fit PairFit (λ v t. fits types v (out-Shape t)) pair_fits (layer.Dictionary pairs))

  pub has-event : (n : ℕ) (fields : List Value) (s : Shape) → has types (value.Event n fields) s ≡ fits types (layer.Event n (map (has types) fields)) (out-Shape s)
  has-event n fields s = ap (λ v. has types v s) (sym (value.rolls-Event n fields)) ∙ ap (λ (f : Fit). f s) (fold-roll-Value Fit PairFit (λ v t. fits types v (out-Shape t)) pair_fits (layer.Event n fields))

  pub has-context : (slot : ℕ) (s : Shape) → has types (value.Context slot) s ≡ fits types (layer.Context slot) (out-Shape s)
  has-context slot s = ap (λ v. has types v s) (sym (value.rolls-Context slot)) ∙ ap (λ (f : Fit). f s) (fold-roll-Value Fit PairFit (λ v t. fits types v (out-Shape t)) pair_fits (layer.Context slot))

  pub has-no_context : (s : Shape) → has types value.NoContext s ≡ fits types layer.NoContext (out-Shape s)
  has-no_context s = ap (λ v. has types v s) (sym value.rolls-NoContext) ∙ ap (λ (f : Fit). f s) (fold-roll-Value Fit PairFit (λ v t. fits types v (out-Shape t)) pair_fits layer.NoContext)

  pub has-listener : (birth : ℕ) (s : Shape) → has types (value.Listener birth) s ≡ fits types (layer.Listener birth) (out-Shape s)
  has-listener birth s = ap (λ v. has types v s) (sym (value.rolls-Listener birth)) ∙ ap (λ (f : Fit). f s) (fold-roll-Value Fit PairFit (λ v t. fits types v (out-Shape t)) pair_fits (layer.Listener birth))

  pub pair-has : (pair : Pair) (key item : Shape) → pair_has types pair key item ≡ (has types pair.key key && has types pair.value item)
  pair-has pair key item = ap (λ (f : PairFit). f key item) (fold_out-Pair Fit PairFit (λ v t. fits types v (out-Shape t)) pair_fits pair)
