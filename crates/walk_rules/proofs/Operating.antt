-- Loops over operands, links, entries and steps.
use Rattle.std.proofs.Common.{◌≡◌, ◌+◌, ◌≤◌, ◌<◌, ◌∷◌}
use Rattle.walk_rules.proofs.Common.{ℕ, true, false, List, [], length, map, drop, get_or, Ok, Err, refl, sym, ap, ◌∙◌, Value, Pair, Told, Frame, M, choose, truth_of, Reach, Pairing, Linking, or_from, and_from, xor_from, links_from, entries_behind, Stop, Walks, Leads}
use Rattle.epl_values.specs.declared.value.Value.TheVariants as value
use Rattle.body_meaning.specs.Runs.{◌>>=◌, pure}
use Rattle.body_meaning.specs.Values.{differ}
use Rattle.body_meaning.specs.Paths.{with_entry}
use Rattle.body_meaning.specs.Expressions.{operate, reach_from}
use Rattle.walk_rules.proofs.Running.{walks_pure}
use Rattle.walk_rules.proofs.Leading.{leads_bind, leads_same, leads_stop, leads_walks, next_mapped, none_mapped}

-- ---- `or`, `and`, `xor`

or_decided : (ms : List (M Value)) (v : Value) → true ≡ truth_of v → or_from ms v ≡ pure v
or_decided [] v h = refl
or_decided (m ∷ ms) v h = ap (λ b. choose b (pure v) (m >>= or_from ms)) (sym h)

-- where the value decides, what is behind isn't looked at
pub or_out : (ms : List (M Value)) (v : Value) {m : M Value} {t t1 : Told} {f f1 : Frame} → Leads m t f (or_from ms v) t1 f1 → true ≡ truth_of v → Walks m t f t1 f1 (Ok v)
or_out ms v a h = leads_walks (leads_same (or_decided ms v h) a) (walks_pure v _ _)

and_decided : (ms : List (M Value)) (v : Value) → false ≡ truth_of v → and_from ms v ≡ pure v
and_decided [] v h = refl
and_decided (m ∷ ms) v h = ap (λ b. choose b (m >>= and_from ms) (pure v)) (sym h)

pub and_out : (ms : List (M Value)) (v : Value) {m : M Value} {t t1 : Told} {f f1 : Frame} → Leads m t f (and_from ms v) t1 f1 → false ≡ truth_of v → Walks m t f t1 f1 (Ok v)
and_out ms v a h = leads_walks (leads_same (and_decided ms v h) a) (walks_pure v _ _)

module _ {X : Type 0} (F : X → M Value) (items : List X) (i : ℕ) (x : X) (v : Value) (within : i < length items) (is : x ≡ get_or items i x) where
  or_next : false ≡ truth_of v → or_from (map F (drop i items)) v ≡ (F x >>= or_from (map F (drop (i + 1) items)))
  or_next h = ap (λ ms. or_from ms v) (next_mapped F items i x within is) ∙ ap (λ b. choose b (pure v) (F x >>= or_from (map F (drop (i + 1) items)))) (sym h)

  pub or_step : {m : M Value} {w : Value} {t t1 t2 : Told} {f f1 f2 : Frame} → Leads m t f (or_from (map F (drop i items)) v) t1 f1 → false ≡ truth_of v → Walks (F x) t1 f1 t2 f2 (Ok w) → Leads m t f (or_from (map F (drop (i + 1) items)) w) t2 f2
  or_step a h b = leads_bind (or_from (map F (drop (i + 1) items))) (leads_same (or_next h) a) b

  pub or_stop : {m : M Value} {stop : Stop} {t t1 t2 : Told} {f f1 f2 : Frame} → Leads m t f (or_from (map F (drop i items)) v) t1 f1 → false ≡ truth_of v → Walks (F x) t1 f1 t2 f2 (Err stop) → Walks m t f t2 f2 (Err stop)
  or_stop a h b = leads_stop _ (leads_same (or_next h) a) b

  and_next : true ≡ truth_of v → and_from (map F (drop i items)) v ≡ (F x >>= and_from (map F (drop (i + 1) items)))
  and_next h = ap (λ ms. and_from ms v) (next_mapped F items i x within is) ∙ ap (λ b. choose b (F x >>= and_from (map F (drop (i + 1) items))) (pure v)) (sym h)

  pub and_step : {m : M Value} {w : Value} {t t1 t2 : Told} {f f1 f2 : Frame} → Leads m t f (and_from (map F (drop i items)) v) t1 f1 → true ≡ truth_of v → Walks (F x) t1 f1 t2 f2 (Ok w) → Leads m t f (and_from (map F (drop (i + 1) items)) w) t2 f2
  and_step a h b = leads_bind (and_from (map F (drop (i + 1) items))) (leads_same (and_next h) a) b

  pub and_stop : {m : M Value} {stop : Stop} {t t1 t2 : Told} {f f1 f2 : Frame} → Leads m t f (and_from (map F (drop i items)) v) t1 f1 → true ≡ truth_of v → Walks (F x) t1 f1 t2 f2 (Err stop) → Walks m t f t2 f2 (Err stop)
  and_stop a h b = leads_stop _ (leads_same (and_next h) a) b

  xor_go : Value → M Value
  xor_go w = xor_from (map F (drop (i + 1) items)) (value.Boolean (differ (truth_of v) (truth_of w)))

  xor_next : xor_from (map F (drop i items)) v ≡ (F x >>= xor_go)
  unfolding xor_go
  xor_next = ap (λ ms. xor_from ms v) (next_mapped F items i x within is)

  pub xor_step : {m : M Value} {w : Value} {t t1 t2 : Told} {f f1 f2 : Frame} → Leads m t f (xor_from (map F (drop i items)) v) t1 f1 → Walks (F x) t1 f1 t2 f2 (Ok w) → Leads m t f (xor_from (map F (drop (i + 1) items)) (value.Boolean (differ (truth_of v) (truth_of w)))) t2 f2
  unfolding xor_go
  xor_step a b = leads_bind xor_go (leads_same xor_next a) b

  pub xor_stop : {m : M Value} {stop : Stop} {t t1 t2 : Told} {f f1 f2 : Frame} → Leads m t f (xor_from (map F (drop i items)) v) t1 f1 → Walks (F x) t1 f1 t2 f2 (Err stop) → Walks m t f t2 f2 (Err stop)
  xor_stop a b = leads_stop _ (leads_same xor_next a) b

module _ {X : Type 0} (F : X → M Value) (items : List X) (i : ℕ) (v : Value) {m : M Value} {t t1 : Told} {f f1 : Frame} (past : length items ≤ i) where
  pub or_end : Leads m t f (or_from (map F (drop i items)) v) t1 f1 → Walks m t f t1 f1 (Ok v)
  or_end a = leads_walks (leads_same (ap (λ ms. or_from ms v) (none_mapped F items i past)) a) (walks_pure v _ _)

  pub and_end : Leads m t f (and_from (map F (drop i items)) v) t1 f1 → Walks m t f t1 f1 (Ok v)
  and_end a = leads_walks (leads_same (ap (λ ms. and_from ms v) (none_mapped F items i past)) a) (walks_pure v _ _)

  pub xor_end : Leads m t f (xor_from (map F (drop i items)) v) t1 f1 → Walks m t f t1 f1 (Ok v)
  xor_end a = leads_walks (leads_same (ap (λ ms. xor_from ms v) (none_mapped F items i past)) a) (walks_pure v _ _)

-- ---- operators with their operands

module _ {X : Type 0} (F : X → Linking) (items : List X) (i : ℕ) (x : X) (v : Value) (within : i < length items) (is : x ≡ get_or items i x) where
  links_go : Value → M Value
  links_go w = operate (F x).operator v w >>= links_from (map F (drop (i + 1) items))

  links_next : links_from (map F (drop i items)) v ≡ ((F x).operand >>= links_go)
  unfolding links_go
  links_next = ap (λ ls. links_from ls v) (next_mapped F items i x within is)

  links_then : {m : M Value} {w : Value} {t t1 t2 : Told} {f f1 f2 : Frame} → Leads m t f (links_from (map F (drop i items)) v) t1 f1 → Walks (F x).operand t1 f1 t2 f2 (Ok w) → Leads m t f (operate (F x).operator v w >>= links_from (map F (drop (i + 1) items))) t2 f2
  unfolding links_go
  links_then a b = leads_bind links_go (leads_same links_next a) b

  pub links_step : {m : M Value} {w u : Value} {t t1 t2 t3 : Told} {f f1 f2 f3 : Frame} → Leads m t f (links_from (map F (drop i items)) v) t1 f1 → Walks (F x).operand t1 f1 t2 f2 (Ok w) → Walks (operate (F x).operator v w) t2 f2 t3 f3 (Ok u) → Leads m t f (links_from (map F (drop (i + 1) items)) u) t3 f3
  links_step a b c = leads_bind (links_from (map F (drop (i + 1) items))) (links_then a b) c

  pub links_operand_stop : {m : M Value} {stop : Stop} {t t1 t2 : Told} {f f1 f2 : Frame} → Leads m t f (links_from (map F (drop i items)) v) t1 f1 → Walks (F x).operand t1 f1 t2 f2 (Err stop) → Walks m t f t2 f2 (Err stop)
  links_operand_stop a b = leads_stop _ (leads_same links_next a) b

  pub links_stop : {m : M Value} {w : Value} {stop : Stop} {t t1 t2 t3 : Told} {f f1 f2 f3 : Frame} → Leads m t f (links_from (map F (drop i items)) v) t1 f1 → Walks (F x).operand t1 f1 t2 f2 (Ok w) → Walks (operate (F x).operator v w) t2 f2 t3 f3 (Err stop) → Walks m t f t3 f3 (Err stop)
  links_stop a b c = leads_stop _ (links_then a b) c

pub links_end : {X : Type 0} (F : X → Linking) (items : List X) (i : ℕ) (v : Value) {m : M Value} {t t1 : Told} {f f1 : Frame} → length items ≤ i → Leads m t f (links_from (map F (drop i items)) v) t1 f1 → Walks m t f t1 f1 (Ok v)
links_end F items i v past a = leads_walks (leads_same (ap (λ ls. links_from ls v) (none_mapped F items i past)) a) (walks_pure v _ _)

-- ---- entries of a dictionary

module _ {X : Type 0} (F : X → Pairing) (pairs : List Pair) (items : List X) (i : ℕ) (x : X) (within : i < length items) (is : x ≡ get_or items i x) where
  entries_put : Value → Value → M (List Pair)
  entries_put key v = entries_behind (with_entry key v pairs) (map F (drop (i + 1) items))

  entries_go : Value → M (List Pair)
  entries_go key = (F x).value >>= entries_put key

  entries_next : entries_behind pairs (map F (drop i items)) ≡ ((F x).key >>= entries_go)
  unfolding entries_go entries_put
  entries_next = ap (λ ps. entries_behind pairs ps) (next_mapped F items i x within is)

  entries_then : {m : M (List Pair)} {key : Value} {t t1 t2 : Told} {f f1 f2 : Frame} → Leads m t f (entries_behind pairs (map F (drop i items))) t1 f1 → Walks (F x).key t1 f1 t2 f2 (Ok key) → Leads m t f ((F x).value >>= entries_put key) t2 f2
  unfolding entries_go
  entries_then a b = leads_bind entries_go (leads_same entries_next a) b

  pub entries_step : {m : M (List Pair)} {key v : Value} {t t1 t2 t3 : Told} {f f1 f2 f3 : Frame} → Leads m t f (entries_behind pairs (map F (drop i items))) t1 f1 → Walks (F x).key t1 f1 t2 f2 (Ok key) → Walks (F x).value t2 f2 t3 f3 (Ok v) → Leads m t f (entries_behind (with_entry key v pairs) (map F (drop (i + 1) items))) t3 f3
  unfolding entries_put
  entries_step {key = key} a b c = leads_bind (entries_put key) (entries_then a b) c

  pub entries_key_stop : {m : M (List Pair)} {stop : Stop} {t t1 t2 : Told} {f f1 f2 : Frame} → Leads m t f (entries_behind pairs (map F (drop i items))) t1 f1 → Walks (F x).key t1 f1 t2 f2 (Err stop) → Walks m t f t2 f2 (Err stop)
  entries_key_stop a b = leads_stop _ (leads_same entries_next a) b

  pub entries_stop : {m : M (List Pair)} {key : Value} {stop : Stop} {t t1 t2 t3 : Told} {f f1 f2 f3 : Frame} → Leads m t f (entries_behind pairs (map F (drop i items))) t1 f1 → Walks (F x).key t1 f1 t2 f2 (Ok key) → Walks (F x).value t2 f2 t3 f3 (Err stop) → Walks m t f t3 f3 (Err stop)
  entries_stop a b c = leads_stop _ (entries_then a b) c

pub entries_end : {X : Type 0} (F : X → Pairing) (pairs : List Pair) (items : List X) (i : ℕ) {m : M (List Pair)} {t t1 : Told} {f f1 : Frame} → length items ≤ i → Leads m t f (entries_behind pairs (map F (drop i items))) t1 f1 → Walks m t f t1 f1 (Ok pairs)
entries_end F pairs items i past a = leads_walks (leads_same (ap (λ ps. entries_behind pairs ps) (none_mapped F items i past)) a) (walks_pure pairs _ _)

-- ---- steps behind a value

module _ {X : Type 0} (F : X → Reach) (items : List X) (i : ℕ) (x : X) (v : Value) (within : i < length items) (is : x ≡ get_or items i x) where
  reach_next : reach_from (map F (drop i items)) v ≡ ((F x).from v >>= reach_from (map F (drop (i + 1) items)))
  reach_next = ap (λ rs. reach_from rs v) (next_mapped F items i x within is)

  pub reach_step : {m : M Value} {w : Value} {t t1 t2 : Told} {f f1 f2 : Frame} → Leads m t f (reach_from (map F (drop i items)) v) t1 f1 → Walks ((F x).from v) t1 f1 t2 f2 (Ok w) → Leads m t f (reach_from (map F (drop (i + 1) items)) w) t2 f2
  reach_step a b = leads_bind (reach_from (map F (drop (i + 1) items))) (leads_same reach_next a) b

  pub reach_stop : {m : M Value} {stop : Stop} {t t1 t2 : Told} {f f1 f2 : Frame} → Leads m t f (reach_from (map F (drop i items)) v) t1 f1 → Walks ((F x).from v) t1 f1 t2 f2 (Err stop) → Walks m t f t2 f2 (Err stop)
  reach_stop a b = leads_stop _ (leads_same reach_next a) b

pub reach_end : {X : Type 0} (F : X → Reach) (items : List X) (i : ℕ) (v : Value) {m : M Value} {t t1 : Told} {f f1 : Frame} → length items ≤ i → Leads m t f (reach_from (map F (drop i items)) v) t1 f1 → Walks m t f t1 f1 (Ok v)
reach_end F items i v past a = leads_walks (leads_same (ap (λ rs. reach_from rs v) (none_mapped F items i past)) a) (walks_pure v _ _)
