-- Loops whose parts are told of the globals alone where they stop: the part behind that another one comes, and the part that stops.
use Rattle.std.proofs.Common.{◌≡◌, ℕ, ◌+◌, ◌<◌, true, false, List, [], ◌∷◌, ◌++◌, length, map, drop, get_or, Some, None, Ok, Err}
use Rattle.epl_values.specs.declared.value.Value.{Value}
use Rattle.epl_values.specs.declared.value.Value.TheVariants as value
use Rattle.epl_values.specs.declared.value.Pair.{Pair}
use Rattle.action_host.specs.Told.{Told}
use Rattle.body_meaning.specs.declared.run.Flow.{Flow}
use Rattle.body_meaning.specs.declared.run.Flow.TheVariants.{Next}
use Rattle.body_meaning.specs.declared.run.Frame.{Frame}
use Rattle.body_meaning.specs.Runs.{M, charge, change, all_behind}
use Rattle.body_meaning.specs.Paths.{set_local, with_entry}
use Rattle.body_meaning.specs.Values.{truth_of, differ}
use Rattle.body_meaning.specs.Expressions.{Linking, Pairing, or_from, and_from, xor_from, links_from, operate, entries_behind}
use Rattle.body_meaning.specs.Statements.{row, is_next, turn_end, while_of, each}
use Rattle.walk_rules.specs.declared.stop.Stop.{Stop}
use Rattle.walk_rules.specs.Ran.{Walks, Leads, Turning}
use Rattle.walk_rules.proofs.Leading.{all_step, all_stop, row_step, row_out, row_stop}
use Rattle.walk_rules.proofs.Operating.{or_step, or_stop, and_step, and_stop, xor_step, xor_stop, links_step, links_operand_stop, links_stop, entries_step, entries_key_stop, entries_stop}
use Rattle.walk_rules.proofs.Looping.{each_step, each_out, each_stop, turning_next, turning_out, turning_false, turning_untested, turning_stop}
use Rattle.path_bases.specs.Tells.{Tells}
use Rattle.walk_laws.proofs.Telling.{walks_tells, tells_walks, tells_through}

-- ---- values in a row

module _ {X A : Type 0} (F : X → M A) (values : List A) (items : List X) (i : ℕ) (x : X) (within : i < length items) (is : x ≡ get_or items i x) {m : M (List A)} {t t1 t2 : Told} {f f1 f2 : Frame} (leads : Leads m t f (all_behind values (map F (drop i items))) t1 f1) where
  -- one more value
  pub all_told : {y : A} → Tells (F x) t1 f1 t2 f2 (Ok y) → Leads m t f (all_behind (values ++ y ∷ []) (map F (drop (i + 1) items))) t2 f2
  all_told a = all_step F values items i x within is leads (walks_tells a)

  -- where a value stops, all stop
  pub all_told_stop : {stop : Stop} → Tells (F x) t1 f1 t2 f2 (Err stop) → Tells m t f t2 f2 (Err stop)
  all_told_stop a = tells_through (λ g b. all_stop F values items i x within is leads b) a

-- ---- operands

module _ {X : Type 0} (F : X → M Value) (items : List X) (i : ℕ) (x : X) (v : Value) (within : i < length items) (is : x ≡ get_or items i x) {m : M Value} {t t1 t2 : Told} {f f1 f2 : Frame} where
  -- one more operand of `or`
  pub or_told : {w : Value} → Leads m t f (or_from (map F (drop i items)) v) t1 f1 → false ≡ truth_of v → Tells (F x) t1 f1 t2 f2 (Ok w) → Leads m t f (or_from (map F (drop (i + 1) items)) w) t2 f2
  or_told leads h a = or_step F items i x v within is leads h (walks_tells a)

  -- where an operand of `or` stops
  pub or_told_stop : {stop : Stop} → Leads m t f (or_from (map F (drop i items)) v) t1 f1 → false ≡ truth_of v → Tells (F x) t1 f1 t2 f2 (Err stop) → Tells m t f t2 f2 (Err stop)
  or_told_stop leads h a = tells_through (λ g b. or_stop F items i x v within is leads h b) a

  -- one more operand of `and`
  pub and_told : {w : Value} → Leads m t f (and_from (map F (drop i items)) v) t1 f1 → true ≡ truth_of v → Tells (F x) t1 f1 t2 f2 (Ok w) → Leads m t f (and_from (map F (drop (i + 1) items)) w) t2 f2
  and_told leads h a = and_step F items i x v within is leads h (walks_tells a)

  -- where an operand of `and` stops
  pub and_told_stop : {stop : Stop} → Leads m t f (and_from (map F (drop i items)) v) t1 f1 → true ≡ truth_of v → Tells (F x) t1 f1 t2 f2 (Err stop) → Tells m t f t2 f2 (Err stop)
  and_told_stop leads h a = tells_through (λ g b. and_stop F items i x v within is leads h b) a

  -- one more operand of `xor`
  pub xor_told : {w : Value} → Leads m t f (xor_from (map F (drop i items)) v) t1 f1 → Tells (F x) t1 f1 t2 f2 (Ok w) → Leads m t f (xor_from (map F (drop (i + 1) items)) (value.Boolean (differ (truth_of v) (truth_of w)))) t2 f2
  xor_told leads a = xor_step F items i x v within is leads (walks_tells a)

  -- where an operand of `xor` stops
  pub xor_told_stop : {stop : Stop} → Leads m t f (xor_from (map F (drop i items)) v) t1 f1 → Tells (F x) t1 f1 t2 f2 (Err stop) → Tells m t f t2 f2 (Err stop)
  xor_told_stop leads a = tells_through (λ g b. xor_stop F items i x v within is leads b) a

-- ---- operators with their operands

module _ {X : Type 0} (F : X → Linking) (items : List X) (i : ℕ) (x : X) (v : Value) (within : i < length items) (is : x ≡ get_or items i x) {m : M Value} {t t1 t2 : Told} {f f1 f2 : Frame} (leads : Leads m t f (links_from (map F (drop i items)) v) t1 f1) where
  -- one more operator with its operand
  pub links_told : {w u : Value} {t3 : Told} {f3 : Frame} → Tells (F x).operand t1 f1 t2 f2 (Ok w) → Walks (operate (F x).operator v w) t2 f2 t3 f3 (Ok u) → Leads m t f (links_from (map F (drop (i + 1) items)) u) t3 f3
  links_told a b = links_step F items i x v within is leads (walks_tells a) b

  -- where the operand stops
  pub links_told_operand_stop : {stop : Stop} → Tells (F x).operand t1 f1 t2 f2 (Err stop) → Tells m t f t2 f2 (Err stop)
  links_told_operand_stop a = tells_through (λ g b. links_operand_stop F items i x v within is leads b) a

  -- where the operator stops
  pub links_told_stop : {w : Value} {stop : Stop} {t3 : Told} {f3 : Frame} → Tells (F x).operand t1 f1 t2 f2 (Ok w) → Walks (operate (F x).operator v w) t2 f2 t3 f3 (Err stop) → Tells m t f t3 f3 (Err stop)
  links_told_stop a b = tells_walks (links_stop F items i x v within is leads (walks_tells a) b)

-- ---- entries of a dictionary

module _ {X : Type 0} (F : X → Pairing) (pairs : List Pair) (items : List X) (i : ℕ) (x : X) (within : i < length items) (is : x ≡ get_or items i x) {m : M (List Pair)} {t t1 t2 : Told} {f f1 f2 : Frame} (leads : Leads m t f (entries_behind pairs (map F (drop i items))) t1 f1) where
  -- one more entry
  pub entries_told : {key v : Value} {t3 : Told} {f3 : Frame} → Tells (F x).key t1 f1 t2 f2 (Ok key) → Tells (F x).value t2 f2 t3 f3 (Ok v) → Leads m t f (entries_behind (with_entry key v pairs) (map F (drop (i + 1) items))) t3 f3
  entries_told a b = entries_step F pairs items i x within is leads (walks_tells a) (walks_tells b)

  -- where the key stops
  pub entries_told_key_stop : {stop : Stop} → Tells (F x).key t1 f1 t2 f2 (Err stop) → Tells m t f t2 f2 (Err stop)
  entries_told_key_stop a = tells_through (λ g b. entries_key_stop F pairs items i x within is leads b) a

  -- where the value stops
  pub entries_told_stop : {key : Value} {stop : Stop} {t3 : Told} {f3 : Frame} → Tells (F x).key t1 f1 t2 f2 (Ok key) → Tells (F x).value t2 f2 t3 f3 (Err stop) → Tells m t f t3 f3 (Err stop)
  entries_told_stop a b = tells_through (λ g c. entries_stop F pairs items i x within is leads (walks_tells a) c) b

-- ---- statements one after another

module _ {X : Type 0} (F : X → M Flow) (items : List X) (i : ℕ) (x : X) (within : i < length items) (is : x ≡ get_or items i x) {m : M Flow} {t t1 t2 : Told} {f f1 f2 : Frame} (leads : Leads m t f (row (map F (drop i items))) t1 f1) where
  -- one more statement
  pub row_told : {flow : Flow} → Tells (F x) t1 f1 t2 f2 (Ok flow) → true ≡ is_next flow → Leads m t f (row (map F (drop (i + 1) items))) t2 f2
  row_told a next = row_step F items i x within is leads (walks_tells a) next

  -- a statement that doesn't go on
  pub row_told_out : {flow : Flow} → Tells (F x) t1 f1 t2 f2 (Ok flow) → false ≡ is_next flow → Tells m t f t2 f2 (Ok flow)
  row_told_out a out = tells_walks (row_out F items i x within is leads (walks_tells a) out)

  -- where a statement stops
  pub row_told_stop : {stop : Stop} → Tells (F x) t1 f1 t2 f2 (Err stop) → Tells m t f t2 f2 (Err stop)
  row_told_stop a = tells_through (λ g b. row_stop F items i x within is leads b) a

-- ---- loops over values

module _ (n : ℕ) (body : M Flow) (values : List Value) (i : ℕ) (v : Value) {m : M Flow} {t t1 t2 t4 : Told} {f f1 f2 f4 : Frame} (within : i < length values) (is : v ≡ get_or values i v) (leads : Leads m t f (each n (drop i values) body) t1 f1) (paid : Walks (charge 1) t1 f1 t2 f1 (Ok tt)) (stored : Walks (change (set_local n v)) t2 f1 t2 f2 (Ok tt)) where
  -- one more turn
  pub each_told : {flow : Flow} → Tells body t2 f2 t4 f4 (Ok flow) → None ≡ turn_end flow → Leads m t f (each n (drop (i + 1) values) body) t4 f4
  each_told ran on = each_step n body values i v within is leads paid stored (walks_tells ran) on

  -- a turn that ends the loop
  pub each_told_out : {flow end : Flow} → Tells body t2 f2 t4 f4 (Ok flow) → Some end ≡ turn_end flow → Tells m t f t4 f4 (Ok end)
  each_told_out ran out = tells_walks (each_out n body values i v within is leads paid stored (walks_tells ran) out)

  -- where a turn stops
  pub each_told_stop : {stop : Stop} → Tells body t2 f2 t4 f4 (Err stop) → Tells m t f t4 f4 (Err stop)
  each_told_stop ran = tells_through (λ g b. each_stop n body values i v within is leads paid stored b) ran

-- ---- loops that test

module _ (test : M Value) (body : M Flow) {t t1 t2 t3 : Told} {f f1 f3 : Frame} (at : Turning test body t f t1 f1) (paid : Walks (charge 1) t1 f1 t2 f1 (Ok tt)) where
  -- one more turn
  pub turning_told : {v : Value} {flow : Flow} {t4 : Told} {f4 : Frame} → t2.scene.fuel + 1 ≡ t1.scene.fuel → Tells test t2 f1 t3 f3 (Ok v) → true ≡ truth_of v → Tells body t3 f3 t4 f4 (Ok flow) → None ≡ turn_end flow → Turning test body t f t4 f4
  turning_told less tested holds ran on = turning_next test body at paid less (walks_tells tested) holds (walks_tells ran) on

  -- a turn that ends the loop
  pub turning_told_out : {v : Value} {flow end : Flow} {t4 : Told} {f4 : Frame} → Tells test t2 f1 t3 f3 (Ok v) → true ≡ truth_of v → Tells body t3 f3 t4 f4 (Ok flow) → Some end ≡ turn_end flow → Tells (while_of test body) t f t4 f4 (Ok end)
  turning_told_out tested holds ran out = tells_walks (turning_out test body at paid (walks_tells tested) holds (walks_tells ran) out)

  -- a test that fails ends the loop
  pub turning_told_false : {v : Value} → Tells test t2 f1 t3 f3 (Ok v) → false ≡ truth_of v → Tells (while_of test body) t f t3 f3 (Ok Next)
  turning_told_false tested fails = tells_walks (turning_false test body at paid (walks_tells tested) fails)

  -- where the test stops
  pub turning_told_untested : {stop : Stop} → Tells test t2 f1 t3 f3 (Err stop) → Tells (while_of test body) t f t3 f3 (Err stop)
  turning_told_untested tested = tells_through (λ g b. turning_untested test body at paid b) tested

  -- where the turn stops
  pub turning_told_stop : {v : Value} {stop : Stop} {t4 : Told} {f4 : Frame} → Tells test t2 f1 t3 f3 (Ok v) → true ≡ truth_of v → Tells body t3 f3 t4 f4 (Err stop) → Tells (while_of test body) t f t4 f4 (Err stop)
  turning_told_stop tested holds ran = tells_through (λ g b. turning_stop test body at paid (walks_tells tested) holds b) ran
