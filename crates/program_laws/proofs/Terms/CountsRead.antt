-- An event expression without faults counts at most its leaves and operands, and numbers the names that it binds in order.
use Rattle.std.proofs.Common.{◌≡◌, ◌+◌, ◌<◌, ◌≤◌, ◌==◌, ◌∷◌, ◌++◌, if◌then◌else◌}
use Rattle.program_laws.proofs.Common.{ℕ, Bool, true, false, nat_le, List, [], map, drop, length, Option, Some, None, is_some, refl, sym, ap, subst, ◌∙◌, true≢false, arith, append_assoc, slice_get, and_from, and_parts, eq-eqb, or_parts, nat_tests, length-append, length_push, append-nil, sum_by-cons, Spot, EventShape, Field, Duration, Template, TemplateClause, EventExpr, Name, Term, Term-F, map-Term, roll-Term, fold-roll-Term, TemplateShape, term_part, count_up, Scope, Table, told, Sofar, Clauses, constraints_read, leaf_codes, with_leaf, is_taken, is_full, fields_of, name_codes, with_name, no_clauses, clauses_read, template_of, each_step, behind_step, each_behind, Went, went}
use Rattle.std.specs.Prelude.{sum}
use Rattle.epl_tree.specs.declared.event.TemplateClause.TheVariants as clause
use Rattle.typed_program.specs.TermRules.{operands_of, durations, list_of, binds_all, part_of}
use Rattle.typed_program.specs.TermRules.{Part as Ruled}
use Rattle.listener_check.specs.Durations.{duration_read}
use Rattle.listener_check.specs.Limits.{short, leaf_read}
use Rattle.listener_check.specs.Templates.{name_read, clause_read, parts_read, typed_read}
use Rattle.listener_check.specs.Terms.{Part, each}
use Rattle.listener_check.specs.Terms as reading
use Rattle.listener_check.specs.Went.{through, ◌>>=◌}
use Rattle.program_laws.proofs.Shapes.Lists.{no_both, no_told, no_if}
use Rattle.program_laws.proofs.Terms.Thus.{Thus, thus_went, thus_then, thus_behind, thus_through}
use Rattle.program_laws.proofs.Terms.Counted.{Used, OfDone, constraints_used, duration_used}

-- ---- counts

-- what is counted from one place to another: names in order, and at least these leaves and operands
pub record Counts (s : Sofar) (binds : List ℕ) (leaves operands : ℕ) (t : Sofar) : Type 0 where
  pub in_order : count_up (length s.names) binds ≡ true
  pub many : length t.names ≡ length s.names + length binds
  pub leaves_so : leaves + s.leaves ≤ t.leaves
  pub operands_so : operands + s.sums ≤ t.sums

count_append : (n : ℕ) (xs ys : List ℕ) → count_up n xs ≡ true → count_up (n + length xs) ys ≡ true → count_up n (xs ++ ys) ≡ true
count_append n [] ys h k = subst (λ (m : ℕ). count_up m ys ≡ true) (omega arith) k
count_append n (x ∷ xs) ys h k =
    let p = and_parts (x == n) (count_up (n + 1) xs) h in
    and_from (x == n) (count_up (n + 1) (xs ++ ys)) p.0 (count_append (n + 1) xs ys p.1 (subst (λ (m : ℕ). count_up m ys ≡ true) (omega arith) k))

-- nothing
pub counts_none : (s : Sofar) → Counts s [] 0 0 s
counts_none s = record { in_order = refl; many = omega arith; leaves_so = omega arith; operands_so = omega arith }

-- parts in a row
pub counts_on : (s t u : Sofar) (b c : List ℕ) (l m o p : ℕ) → Counts s b l o t → Counts t c m p u → Counts s (b ++ c) (l + m) (o + p) u
counts_on s t u b c l m o p x y =
    let many = x.many in let more = y.many in let long = length-append b c in
    let xl = x.leaves_so in let yl = y.leaves_so in let xo = x.operands_so in let yo = y.operands_so in
    record {
      in_order = count_append (length s.names) b c x.in_order (subst (λ (n : ℕ). count_up n c ≡ true) many y.in_order);
      many = omega arith;
      leaves_so = omega arith;
      operands_so = omega arith;
    }

-- the same counts, written otherwise
pub counts_as : (s t : Sofar) (b c : List ℕ) (l m o p : ℕ) → b ≡ c → l ≡ m → o ≡ p → Counts s b l o t → Counts s c m p t
counts_as s t b c l m o p eb el eo x = subst (λ (d : List ℕ). Counts s d m p t) eb (subst (λ (n : ℕ). Counts s b n p t) el (subst (λ (n : ℕ). Counts s b l n t) eo x))

-- operands and durations alone
pub used_counts : (n : ℕ) (s t : Sofar) → Used n s t → Counts s [] 0 n t
used_counts n s t u =
    let sums = u.sums in let leaves = u.leaves in let names = ap length u.names in
    record { in_order = refl; many = omega arith; leaves_so = omega arith; operands_so = omega arith }

-- for every leaf
pub leaf_counts : (spot : Spot) (s : Sofar) → Thus (λ u t. Counts s [] 1 0 t) (leaf_read spot s)
unfolding leaf_read
leaf_counts spot s = thus_behind (λ u t. Counts s [] 1 0 t) (told spot (leaf_codes s)) (went tt (with_leaf s)) (λ none. thus_went (λ u t. Counts s [] 1 0 t) tt (with_leaf s) (record { in_order = refl; many = omega arith; leaves_so = omega arith; operands_so = omega arith }))

-- a name behind what its template binds so far: nothing
pub record Named (binds : Option ℕ) (s : Sofar) (place : ℕ) (t : Sofar) : Type 0 where
  pub first : is_some binds ≡ false
  pub counted : Counts s (place ∷ []) 0 0 t

name_counts : (scope : Scope) (under : Bool) (binds : Option ℕ) (name : Name) (s : Sofar) → Thus (Named binds s) (name_read scope under binds name s)
unfolding name_read
name_counts scope under binds name s =
    thus_behind (Named binds s) (told name.spot (name_codes scope under binds s.names name.text)) (went (short (length s.names)) (with_name name.text s)) (λ none.
    let codes = no_told name.spot (name_codes scope under binds s.names name.text) none in
    let a = no_both ((if is_taken scope s.names name.text then 1 ∷ [] else []) ++ (if under then 19 ∷ [] else [])) (if is_full binds s.names then 4 ∷ [] else []) codes in
    let room = or_parts (is_some binds) (nat_le 64 (length s.names)) (no_if (is_full binds s.names) 4 a.1) in
    let few = room.1 in
    let less : length s.names < 64 = grind (arith, nat_tests) in
    let small : short (length s.names) ≡ length s.names = omega arith in
    let long = length_push s.names name.text in
    thus_went (Named binds s) (short (length s.names)) (with_name name.text s) (record {
      first = room.0;
      counted = record {
        in_order = and_from (short (length s.names) == length s.names) true (eq-eqb (short (length s.names)) (length s.names) small) refl;
        many = omega arith;
        leaves_so = omega arith;
        operands_so = omega arith;
      };
    }))

none_bound : (o : Option ℕ) → is_some o ≡ false → list_of o ≡ []
none_bound None h = refl
none_bound (Some n) h = absurd (true≢false h)

module _ (table : Table) (scope inner : Scope) where
  abbrev OfClauses : Sofar → Clauses → Sofar → Type 0
  OfClauses s made t = Counts s (list_of made.binds) 0 (durations made.within) t

  within_counts : (under : Bool) (start : Sofar) (made : Clauses) (d : Duration) (s : Sofar) → OfClauses start made s → Thus (OfClauses start) (clause_read table scope inner under made (clause.Within d) s)
  unfolding clause_read
  within_counts under start made d s c =
      thus_then (λ x t. Used 1 s t) (OfClauses start) (duration_read table scope inner d s) (λ at t. went (record made { within = Some at }) t) (duration_used table scope inner d s)
      (λ at t u. thus_went (OfClauses start) (record made { within = Some at }) t
      (let sums = u.sums in let leaves = u.leaves in let names = ap length u.names in
      let many = c.many in let cl = c.leaves_so in let co = c.operands_so in
      record { in_order = c.in_order; many = omega arith; leaves_so = omega arith; operands_so = omega arith }))

  as_counts : (under : Bool) (start : Sofar) (made : Clauses) (name : Name) (s : Sofar) → OfClauses start made s → Thus (OfClauses start) (clause_read table scope inner under made (clause.As name) s)
  unfolding clause_read
  as_counts under start made name s c =
      thus_then (Named made.binds s) (OfClauses start) (name_read scope under made.binds name s) (λ place t. went (record made { binds = Some place }) t) (name_counts scope under made.binds name s)
      (λ place t n. thus_went (OfClauses start) (record made { binds = Some place }) t
      (counts_as start t (list_of made.binds ++ place ∷ []) (place ∷ []) (0 + 0) 0 (durations made.within + 0) (durations made.within)
      (ap (λ (l : List ℕ). l ++ place ∷ []) (none_bound made.binds n.first)) (omega arith) (omega arith)
      (counts_on start s t (list_of made.binds) (place ∷ []) 0 0 (durations made.within) 0 c n.counted)))

  clause_counts : (under : Bool) (start : Sofar) (made : Clauses) (c : TemplateClause) (s : Sofar) → OfClauses start made s → Thus (OfClauses start) (clause_read table scope inner under made c s)
  clause_counts under start made (clause.As name) s c = as_counts under start made name s c
  clause_counts under start made (clause.Within d) s c = within_counts under start made d s c

  clauses_count : (under : Bool) (start : Sofar) (cs : List TemplateClause) (made : Clauses) (s : Sofar) → OfClauses start made s → Thus (OfClauses start) (through (clause_read table scope inner under) made cs s)
  clauses_count under start cs made s c = thus_through (OfClauses start) (clause_read table scope inner under) (λ d x t e. clause_counts under start d x t e) made cs s c

  -- ---- templates

  abbrev pub OfTemplate : Sofar → TemplateShape → Sofar → Type 0
  OfTemplate s x t = Counts s (list_of x.binds) 1 (length (operands_of x) + durations x.within) t

  parts_count : (fields : List Field) (event : ℕ) (under : Bool) (left : List (List ℕ)) (t : Template) (start s : Sofar) → Counts start [] 1 0 s → Thus (OfTemplate start) (parts_read table scope inner fields event under left t s)
  unfolding parts_read
  parts_count fields event under left t start s leaf =
      thus_then (OfDone table scope inner s) (OfTemplate start) (constraints_read table scope inner left fields t.constraints s) (λ done u. clauses_read table scope inner under t.clauses u >>= λ made v. went (template_of table scope inner event t done.constraints made) v)
      (constraints_used table scope inner left fields t.constraints s)
      (λ done u d. thus_then (OfClauses u) (OfTemplate start) (clauses_read table scope inner under t.clauses u) (λ made v. went (template_of table scope inner event t done.constraints made) v)
      (clauses_count under u t.clauses no_clauses u (counts_none u))
      (λ made v c.
      let n = length (operands_of (template_of table scope inner event t done.constraints made)) in
      thus_went (OfTemplate start) (template_of table scope inner event t done.constraints made) v
      (counts_as start v ([] ++ ([] ++ list_of made.binds)) (list_of made.binds) (1 + (0 + 0)) 1 (0 + (n + durations made.within)) (n + durations made.within) refl (omega arith) (omega arith)
      (counts_on start s v [] ([] ++ list_of made.binds) 1 (0 + 0) 0 (n + durations made.within) leaf
      (counts_on s u v [] (list_of made.binds) 0 0 n (durations made.within) (used_counts n s u d) c)))))

  -- for every template
  pub typed_count : (o : Option ℕ) (spot : Spot) (under : Bool) (left : List (List ℕ)) (t : Template) (s : Sofar) → Thus (OfTemplate s) (typed_read table scope inner o spot under left t s)
  unfolding typed_read
  typed_count None spot under left t s = thus_behind (OfTemplate s) (told spot (2 ∷ [])) (went (template_of table scope inner 0 t [] no_clauses) s) (λ none. absurd (let e = no_told spot (2 ∷ []) none in cc))
  typed_count (Some n) spot under left t s =
      thus_then (λ u v. Counts s [] 1 0 v) (OfTemplate s) (leaf_read spot s) (λ u v. parts_read table scope inner (fields_of (slice_get table.types n)) (short n) under left t v) (leaf_counts spot s)
      (λ u v l. parts_count (fields_of (slice_get table.types n)) (short n) under left t s v l)

  -- ---- terms

  module _ (types : List EventShape) where
    abbrev pub ruled : Term → Ruled
    ruled t = part_of types t

    -- what the rules say of a term, by its layer
    pub part_made : (d : Term-F Term) (t : Term) → roll-Term d ≡ t → ruled t ≡ term_part types (map-Term Term Ruled ruled d)
    part_made d t is = ap ruled (sym is) ∙ fold-roll-Term Ruled (term_part types) d

    abbrev pub CountsPart : Sofar → Ruled → Sofar → Type 0
    CountsPart s q t = Counts s q.binds q.leaves q.operands t

    abbrev pub CountsTerm : Sofar → Term → Sofar → Type 0
    CountsTerm s x t = CountsPart s (ruled x) t

    -- a term counts what its layer counts
    pub made_counts : (s t : Sofar) (d : Term-F Term) (x : Term) → roll-Term d ≡ x → CountsPart s (term_part types (map-Term Term Ruled ruled d)) t → CountsTerm s x t
    made_counts s t d x is c = subst (λ (q : Ruled). CountsPart s q t) (sym (part_made d x is)) c

    abbrev pub total : (Ruled → ℕ) → List Ruled → ℕ
    total f [] = 0
    total f (q ∷ qs) = f q + total f qs

    -- it is std's sum
    pub total_is : (f : Ruled → ℕ) (qs : List Ruled) → total f qs ≡ sum (map f qs)
    total_is f [] = refl
    total_is f (q ∷ qs) = ap (λ (n : ℕ). f q + n) (total_is f qs) ∙ sym (sum_by-cons (λ n. n) (f q) (map f qs))

    total_push : (f : Ruled → ℕ) (ts : List Term) (t : Term) → total f (map ruled (ts ++ t ∷ [])) ≡ total f (map ruled ts) + f (ruled t)
    total_push f [] t = omega arith
    total_push f (u ∷ ts) t = let e = total_push f ts t in omega arith

    binds_push : (ts : List Term) (t : Term) → binds_all (map ruled (ts ++ t ∷ [])) ≡ binds_all (map ruled ts) ++ (ruled t).binds
    binds_push [] t = append-nil (ruled t).binds
    binds_push (u ∷ ts) t = ap (λ (l : List ℕ). (ruled u).binds ++ l) (binds_push ts t) ∙ sym (append_assoc (ruled u).binds (binds_all (map ruled ts)) (ruled t).binds)

    abbrev pub CountsAll : Sofar → List Term → Sofar → Type 0
    CountsAll s ts t = Counts s (binds_all (map ruled ts)) (total (λ q. q.leaves) (map ruled ts)) (total (λ q. q.operands) (map ruled ts)) t

    -- a part that counts what it is read to
    pub record PartCounts (p : Part) : Type 0 where
      pub counts : (may under : Bool) (left : List (List ℕ)) (s : Sofar) → Thus (CountsTerm s) (p.reading may under left s)

    step_counts : (may under : Bool) (left : List (List ℕ)) (start : Sofar) (done : List Term) (p : Part) (s : Sofar) → PartCounts p → CountsAll start done s → Thus (CountsAll start) (each_step may under left done p s)
    step_counts may under left start done p s r c =
        thus_then (CountsTerm s) (CountsAll start) (p.reading may under left s) (λ t u. went (done ++ t ∷ []) u) (r.counts may under left s)
        (λ t u n. thus_went (CountsAll start) (done ++ t ∷ []) u
        (counts_as start u _ _ _ _ _ _ (sym (binds_push done t)) (sym (total_push (λ q. q.leaves) done t)) (sym (total_push (λ q. q.operands) done t)) (counts_on start s u _ _ _ _ _ _ c n)))

    abbrev pub ForExpr : EventExpr → Type 0
    ForExpr e = PartCounts (reading.part_of table scope inner e)

    abbrev pub X : Type 0
    X = (e : EventExpr) × ForExpr e

    abbrev pub trees : List X → List EventExpr
    trees ys = map (λ e. e.0) ys

    abbrev pub parts : List X → List Part
    parts ys = map (reading.part_of table scope inner) (trees ys)

    abbrev pub Steps : (List Term → Part → Sofar → Went (List Term)) → Type 0
    Steps step = (start : Sofar) (done : List Term) (p : Part) (s : Sofar) → PartCounts p → CountsAll start done s → Thus (CountsAll start) (step done p s)

    all_count : (step : List Term → Part → Sofar → Went (List Term)) → Steps step → (ys : List X) (start : Sofar) (done : List Term) (s : Sofar) → CountsAll start done s → Thus (CountsAll start) (through step done (parts ys) s)
    unfolding through
    all_count step steps [] start done s c = thus_went (CountsAll start) done s c
    all_count step steps (y ∷ ys) start done s c =
        thus_then (CountsAll start) (CountsAll start) (step done (reading.part_of table scope inner y.0) s) (λ next u. through step next (parts ys) u)
        (steps start done (reading.part_of table scope inner y.0) s y.1 c)
        (λ next u q. all_count step steps ys start next u q)

    -- operands of a chain
    pub each_count : (may under : Bool) (left : List (List ℕ)) (ys : List X) (s : Sofar) → Thus (CountsAll s) (each may under left (parts ys) s)
    each_count may under left ys s = all_count (each_step may under left) (λ start done p t r c. step_counts may under left start done p t r c) ys s [] s (counts_none s)

    -- right sides of `->`
    pub each_behind_count : (start : ℕ) (under : Bool) (left : List (List ℕ)) (ys : List X) (s : Sofar) → Thus (CountsAll s) (each_behind start under left (parts ys) s)
    each_behind_count start under left ys s = all_count (behind_step start under left) (λ first done p t r c. step_counts false under (left ++ drop start t.names) first done p t r c) ys s [] s (counts_none s)

    -- a chain counts what its operands count
    abbrev pub Together : (Term → List Term → Term) → Type 0
    Together made = (head : Term) (tail : List Term) → ((ruled (made head tail)).binds ≡ binds_all (ruled head ∷ map ruled tail)) × ((ruled (made head tail)).leaves ≡ sum (map (λ q. q.leaves) (ruled head ∷ map ruled tail))) × ((ruled (made head tail)).operands ≡ sum (map (λ q. q.operands) (ruled head ∷ map ruled tail)))

    -- by its layer
    pub together : (made : Term → List Term → Term) (d : Term → List Term → Term-F Term) → ((head : Term) (tail : List Term) → roll-Term (d head tail) ≡ made head tail) → ((head : Term) (tail : List Term) → ((term_part types (map-Term Term Ruled ruled (d head tail))).binds ≡ binds_all (ruled head ∷ map ruled tail)) × ((term_part types (map-Term Term Ruled ruled (d head tail))).leaves ≡ sum (map (λ q. q.leaves) (ruled head ∷ map ruled tail))) × ((term_part types (map-Term Term Ruled ruled (d head tail))).operands ≡ sum (map (λ q. q.operands) (ruled head ∷ map ruled tail)))) → Together made
    together made d is so head tail =
        let e = part_made (d head tail) (made head tail) (is head tail) in let a = so head tail in
        (ap (λ (q : Ruled). q.binds) e ∙ a.0, ap (λ (q : Ruled). q.leaves) e ∙ a.1, ap (λ (q : Ruled). q.operands) e ∙ a.2)

    -- for every chain
    pub chain_counts : (made : Term → List Term → Term) → Together made → (head : Term) (start s : Sofar) (w : Went (List Term)) → CountsTerm start head s → Thus (CountsAll s) w → Thus (CountsTerm start) (w >>= λ tail u. went (made head tail) u)
    chain_counts made so head start s w c rest =
        thus_then (CountsAll s) (CountsTerm start) w (λ tail u. went (made head tail) u) rest
        (λ tail u q.
        let a = so head tail in
        thus_went (CountsTerm start) (made head tail) u
        (counts_as start u _ _ _ _ _ _ (sym a.0) (total_is (λ r. r.leaves) (ruled head ∷ map ruled tail) ∙ sym a.1) (total_is (λ r. r.operands) (ruled head ∷ map ruled tail) ∙ sym a.2) (counts_on start s u _ _ _ _ _ _ c q)))
