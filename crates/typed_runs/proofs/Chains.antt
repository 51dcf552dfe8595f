-- Operators with their operands, and the entries of dictionaries, put together from parts that keep the shapes of variables.
use Rattle.std.proofs.Common.{◌∷◌}
use Rattle.typed_runs.proofs.Common.{ℕ, Bool, List, [], AllByRecursion, Shape, Value, Pair, Operator, Program, M, truth_of, Linking, Pairing, or_from, and_from, xor_from, links_from, entries_behind, Fit, Keeps}
use Rattle.epl_values.specs.declared.value.Value.TheVariants as value
use Rattle.epl_values.specs.Order.{KeysAscend}
use Rattle.body_meaning.specs.Values.{differ}
use Rattle.body_meaning.specs.Paths.{with_entry}
use Rattle.body_meaning.specs.Expressions.{operate}
use Rattle.value_shapes.proofs.Layers.{EntriesFit}
use Rattle.value_shapes.proofs.Entries.{entry_fits}
use Rattle.typed_runs.proofs.Keeping.{keeps_pure, keeps_bind, keeps_choose}

module _ {program : Program} {monitor : ℕ} {room : List Shape} where
  module _ {P : Value → Type 0} where
    -- the operands of `or`
    pub keeps_or : (ms : List (M Value)) (v : Value) → P v → AllByRecursion (Keeps program monitor room P) ms → Keeps program monitor room P (or_from ms v)
    keeps_or [] v p h = keeps_pure v p
    keeps_or (m ∷ ms) v p h = keeps_choose (truth_of v) (keeps_pure v p) (keeps_bind _ h.0 (λ w q. keeps_or ms w q h.1))

    -- the operands of `and`
    pub keeps_and : (ms : List (M Value)) (v : Value) → P v → AllByRecursion (Keeps program monitor room P) ms → Keeps program monitor room P (and_from ms v)
    keeps_and [] v p h = keeps_pure v p
    keeps_and (m ∷ ms) v p h = keeps_choose (truth_of v) (keeps_bind _ h.0 (λ w q. keeps_and ms w q h.1)) (keeps_pure v p)

    -- the operands of `xor`
    pub keeps_xor : ((b : Bool) → P (value.Boolean b)) → (ms : List (M Value)) (v : Value) → P v → AllByRecursion (Keeps program monitor room P) ms → Keeps program monitor room P (xor_from ms v)
    keeps_xor made [] v p h = keeps_pure v p
    keeps_xor made (m ∷ ms) v p h = keeps_bind _ h.0 (λ w q. keeps_xor made ms (value.Boolean (differ (truth_of v) (truth_of w))) (made (differ (truth_of v) (truth_of w))) h.1)

    -- operators with their operands
    pub keeps_links : ((o : Operator) (v w : Value) → P v → P w → Keeps program monitor room P (operate o v w)) → (ls : List Linking) (v : Value) → P v → AllByRecursion (λ l. Keeps program monitor room P l.operand) ls → Keeps program monitor room P (links_from ls v)
    keeps_links step [] v p h = keeps_pure v p
    keeps_links step (l ∷ ls) v p h = keeps_bind _ h.0 (λ w q. keeps_bind _ (step l.operator v w p q) (λ u r. keeps_links step ls u r h.1))

  -- the entries of a dictionary
  pub keeps_entries : (k item : Shape) (pairs : List Pair) (ps : List Pairing) → EntriesFit program.types k item pairs × KeysAscend pairs → AllByRecursion (λ p. Keeps program monitor room (λ v. Fit program.types v k) p.key × Keeps program monitor room (λ v. Fit program.types v item) p.value) ps → Keeps program monitor room (λ made. EntriesFit program.types k item made × KeysAscend made) (entries_behind pairs ps)
  keeps_entries k item pairs [] f h = keeps_pure pairs f
  keeps_entries k item pairs (p ∷ ps) f h = keeps_bind _ h.0.0 (λ key a. keeps_bind _ h.0.1 (λ v b. keeps_entries k item (with_entry key v pairs) ps (entry_fits program.types key v pairs k item a b f.0 f.1) h.1))
