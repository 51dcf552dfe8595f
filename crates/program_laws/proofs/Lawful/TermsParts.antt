-- Parts of an event expression in a row: each keeps the rules, and those of a right side of `->` behind what stands left of them.
use Rattle.std.proofs.Common.{◌≡◌, ◌≤◌, ◌∷◌, ◌++◌}
use Rattle.program_laws.proofs.Common.{ℕ, Bool, true, false, not, List, [], map, drop, length, refl, sym, ap, ◌∙◌, true≢false, arith, append_assoc, list_all, and_from, not_from_false, EventExpr, Term, Names, Sight, follow, all_plain, Scope, Table, Sofar, each_step, behind_step, each_behind, Went, went, event_names, any_of}
use Rattle.typed_program.specs.TermRules.{Part as Ruled, plain as stands_plain}
use Rattle.listener_check.specs.Terms.{Part, each}
use Rattle.listener_check.specs.Terms as reading
use Rattle.listener_check.specs.Went.{through}
use Rattle.program_laws.proofs.Terms.CountsRead.{CountsTerm, ruled}
use Rattle.program_laws.proofs.Terms.CountsTerms.{expr_counts}
use Rattle.program_laws.proofs.Terms.Thus.{Thus, thus_went, thus_then, thus_weaker}
use Rattle.program_laws.proofs.Lawful.TermsBound.{Widened}
use Rattle.program_laws.proofs.Lawful.TermsBrought.{ExpressionLaws, brings_none, brings_on, unnamed}
use Rattle.program_laws.proofs.Lawful.TermsNewly.{Newly, newly_same, newly_on, thus_both}
use Rattle.program_laws.proofs.Lawful.TermsPlaces.{Within, within_before, lefts_since}
use Rattle.program_laws.proofs.Lawful.TermsTemplates.{Brought, LeftNames}

module _ (table : Table) (scope inner : Scope) (w : Widened scope inner) (sight : Sight) (laws : ExpressionLaws) (names : Names) where
  abbrev pub Bring : (List ℕ → Bool) → Sofar → Sofar → Type 0
  Bring named s t = Brought table scope inner w sight laws named s t

  abbrev pub Left : List (List ℕ) → List ℕ → Type 0
  Left left nums = LeftNames table scope inner w sight laws left nums

  abbrev pub Whole : Sofar → Type 0
  Whole s = Within table scope inner w names s

  -- what the rules say of a term
  abbrev pub rule : Term → Ruled
  rule t = ruled table scope inner names.types t

  abbrev pub rules : List Term → List Ruled
  rules ts = map rule ts

  abbrev pub OfCounts : Sofar → Term → Sofar → Type 0
  OfCounts s t u = CountsTerm table scope inner names.types s t u

  -- a part that keeps the rules, is a `not` where one may stand, and whose operands are plain
  pub record TermSo (is_not may under : Bool) (left : List (List ℕ)) (named : List ℕ → Bool) (s : Sofar) (t : Term) (u : Sofar) : Type 0 where
    pub newly : Newly under s u
    pub brings : Bring named s u
    pub is_not_so : (rule t).is_not ≡ is_not
    pub may_not : may ≡ false → is_not ≡ false
    pub lawful : Whole u → (nums : List ℕ) → Left left nums → (rule t).lawful nums ≡ true

  -- however it is read
  pub record PartSo (named : List ℕ → Bool) (p : Part) : Type 0 where
    pub reads : (may under : Bool) (left : List (List ℕ)) (s : Sofar) → Thus (TermSo p.is_not may under left named s) (p.reading may under left s)

  abbrev pub ForExpr : EventExpr → Type 0
  ForExpr e = PartSo (event_names e) (reading.part_of table scope inner e)

  abbrev pub X : Type 0
  X = (e : EventExpr) × ForExpr e

  abbrev pub trees : List X → List EventExpr
  trees ys = map (λ e. e.0) ys

  abbrev pub part : X → Part
  part x = reading.part_of table scope inner x.0

  abbrev pub parts : List X → List Part
  parts ys = map (reading.part_of table scope inner) (trees ys)

  abbrev pub named_by : List X → List ℕ → Bool
  named_by ys = any_of (map event_names (trees ys))

  -- with its counts
  abbrev pub Reads : X → Bool → Bool → List (List ℕ) → Sofar → Term → Sofar → Type 0
  Reads x may under left s t u = TermSo (part x).is_not may under left (event_names x.0) s t u × OfCounts s t u

  -- what is read of a part
  pub part_reads : (x : X) (may under : Bool) (left : List (List ℕ)) (s : Sofar) → Thus (Reads x may under left s) ((part x).reading may under left s)
  part_reads x may under left s =
      thus_both (TermSo (part x).is_not may under left (event_names x.0) s) (OfCounts s) ((part x).reading may under left s) (let r = x.1 in r.reads may under left s)
      (let c = expr_counts table scope inner names.types x.0 in c.counts may under left s)

  -- it stands where no `not` may
  pub stands : (x : X) (under : Bool) (left : List (List ℕ)) (s : Sofar) (t : Term) (u : Sofar) → Reads x false under left s t u → Whole u → (nums : List ℕ) → Left left nums → stands_plain (rule t) nums ≡ true
  stands x under left s t u q a nums l = let so = q.0 in and_from (not (rule t).is_not) ((rule t).lawful nums) (not_from_false (rule t).is_not (so.is_not_so ∙ so.may_not refl)) (so.lawful a nums l)

  -- ---- one behind the other

  abbrev pub Along : (X → Sofar → Term → Sofar → Type 0) → List X → Sofar → List Term → Sofar → Type 0
  Along Good [] s [] u = s ≡ u
  Along Good (y ∷ ys) s (t ∷ ts) u = (v : Sofar) × Good y s t v × Along Good ys v ts u
  Along Good ys s ts u = ⊥

  -- what is made of them behind what is done
  record Tail (Good : X → Sofar → Term → Sofar → Type 0) (ys : List X) (done : List Term) (s : Sofar) (ts : List Term) (u : Sofar) : Type 0 where
    tail : List Term
    are : ts ≡ done ++ tail
    along : Along Good ys s tail u

  terms_end : (ts : List Term) → ts ++ [] ≡ ts
  terms_end [] = refl
  terms_end (t ∷ ts) = ap (λ (l : List Term). t ∷ l) (terms_end ts)

  -- one more
  record One (Good : X → Sofar → Term → Sofar → Type 0) (y : X) (done : List Term) (s : Sofar) (next : List Term) (v : Sofar) : Type 0 where
    term : Term
    is : next ≡ done ++ term ∷ []
    good : Good y s term v

  all_along : (Good : X → Sofar → Term → Sofar → Type 0) (step : List Term → Part → Sofar → Went (List Term)) → ((y : X) (done : List Term) (s : Sofar) → Thus (One Good y done s) (step done (part y) s)) → (ys : List X) (done : List Term) (s : Sofar) → Thus (Tail Good ys done s) (through step done (parts ys) s)
  unfolding through
  all_along Good step each_one [] done s = thus_went (Tail Good [] done s) done s (record { tail = []; are = sym (terms_end done); along = refl })
  all_along Good step each_one (y ∷ ys) done s =
      thus_then (One Good y done s) (Tail Good (y ∷ ys) done s) (step done (part y) s) (λ next v. through step next (parts ys) v) (each_one y done s)
      (λ next v o. thus_weaker (Tail Good ys next v) (Tail Good (y ∷ ys) done s) (through step next (parts ys) v) (all_along Good step each_one ys next v)
      (λ ts u r. record {
        tail = o.term ∷ r.tail;
        are = r.are ∙ ap (λ (l : List Term). l ++ r.tail) o.is ∙ append_assoc done (o.term ∷ []) r.tail;
        along = (v, o.good, r.along);
      }))

  whole_along : (Good : X → Sofar → Term → Sofar → Type 0) (ys : List X) (s : Sofar) (ts : List Term) (u : Sofar) → Tail Good ys [] s ts u → Along Good ys s ts u
  whole_along Good ys s ts u r = rw r.are r.along

  one_along : (Good : X → Sofar → Term → Sofar → Type 0) (may under : Bool) (left : List (List ℕ)) (y : X) (done : List Term) (s : Sofar) → ((t : Term) (v : Sofar) → Reads y may under left s t v → Good y s t v) → Thus (One Good y done s) (each_step may under left done (part y) s)
  one_along Good may under left y done s good =
      thus_then (Reads y may under left s) (One Good y done s) ((part y).reading may under left s) (λ t v. went (done ++ t ∷ []) v) (part_reads y may under left s)
      (λ t v q. thus_went (One Good y done s) (done ++ t ∷ []) v (record { term = t; is = refl; good = good t v q }))

  -- what all of them bind, and what they evaluate at the `on`
  pub record Together (under : Bool) (ys : List X) (s u : Sofar) : Type 0 where
    pub newly : Newly under s u
    pub brings : Bring (named_by ys) s u

  together_none : (under : Bool) (s u : Sofar) → s ≡ u → Together under [] s u
  together_none under s u is = record {
    newly = newly_same under s u (ap (λ (v : Sofar). v.names) (sym is));
    brings = brings_none table scope sight (named_by []) s u (ap (λ (v : Sofar). v.operands) (sym is)) (unnamed table scope sight (named_by []) [] (λ name h. true≢false (sym h)));
  }

  together_first : (under : Bool) (y : X) (ys : List X) (s v u : Sofar) → Newly under s v → Bring (event_names y.0) s v → Together under ys v u → Together under (y ∷ ys) s u
  together_first under y ys s v u n b r = record { newly = newly_on under s v u n r.newly; brings = brings_on table scope sight (event_names y.0) (named_by ys) s v u b r.brings }

  -- ---- operands of `or`, `xor` and `and`

  abbrev EachReads : Bool → Bool → List (List ℕ) → X → Sofar → Term → Sofar → Type 0
  EachReads may under left y s t v = Reads y may under left s t v

  abbrev pub EachAlong : Bool → Bool → List (List ℕ) → List X → Sofar → List Term → Sofar → Type 0
  EachAlong may under left ys s ts u = Along (EachReads may under left) ys s ts u

  -- what is read of them
  pub each_along : (may under : Bool) (left : List (List ℕ)) (ys : List X) (s : Sofar) → Thus (EachAlong may under left ys s) (each may under left (parts ys) s)
  each_along may under left ys s =
      thus_weaker (Tail (EachReads may under left) ys [] s) (EachAlong may under left ys s) (each may under left (parts ys) s)
      (all_along (EachReads may under left) (each_step may under left) (λ y done v. one_along (EachReads may under left) may under left y done v (λ t u q. q)) ys [] s)
      (λ ts u r. whole_along (EachReads may under left) ys s ts u r)

  -- together
  pub each_together : (may under : Bool) (left : List (List ℕ)) (ys : List X) (s : Sofar) (ts : List Term) (u : Sofar) → EachAlong may under left ys s ts u → Together under ys s u
  each_together may under left [] s [] u a = together_none under s u a
  each_together may under left [] s (t ∷ ts) u a = absurd a
  each_together may under left (y ∷ ys) s [] u a = absurd a
  each_together may under left (y ∷ ys) s (t ∷ ts) u a = let so = a.1.0 in together_first under y ys s a.0 u so.newly so.brings (each_together may under left ys a.0 ts u a.2)

  -- all of them keep the rules
  pub each_lawful : (may under : Bool) (left : List (List ℕ)) (ys : List X) (s : Sofar) (ts : List Term) (u : Sofar) → EachAlong may under left ys s ts u → Whole u → (nums : List ℕ) → Left left nums → list_all (λ p. p.lawful nums) (rules ts) ≡ true
  each_lawful may under left [] s [] u a whole nums l = refl
  each_lawful may under left [] s (t ∷ ts) u a whole nums l = absurd a
  each_lawful may under left (y ∷ ys) s [] u a whole nums l = absurd a
  each_lawful may under left (y ∷ ys) s (t ∷ ts) u a whole nums l =
      let r = each_together may under left ys a.0 ts u a.2 in let so = a.1.0 in
      and_from ((rule t).lawful nums) (list_all (λ p. p.lawful nums) (rules ts)) (so.lawful (within_before table scope inner w names under a.0 u r.newly whole) nums l) (each_lawful may under left ys a.0 ts u a.2 whole nums l)

  -- where none may be a `not`
  pub each_plain : (under : Bool) (left : List (List ℕ)) (ys : List X) (s : Sofar) (ts : List Term) (u : Sofar) → EachAlong false under left ys s ts u → Whole u → (nums : List ℕ) → Left left nums → all_plain (rules ts) nums ≡ true
  each_plain under left [] s [] u a whole nums l = refl
  each_plain under left [] s (t ∷ ts) u a whole nums l = absurd a
  each_plain under left (y ∷ ys) s [] u a whole nums l = absurd a
  each_plain under left (y ∷ ys) s (t ∷ ts) u a whole nums l =
      let r = each_together false under left ys a.0 ts u a.2 in
      and_from (stands_plain (rule t) nums) (all_plain (rules ts) nums) (stands y under left s t a.0 a.1 (within_before table scope inner w names under a.0 u r.newly whole) nums l) (each_plain under left ys a.0 ts u a.2 whole nums l)

  -- ---- right sides of `->`

  abbrev BehindReads : ℕ → Bool → List (List ℕ) → X → Sofar → Term → Sofar → Type 0
  BehindReads start under left y s t v = Reads y false under (left ++ drop start s.names) s t v

  abbrev pub BehindAlong : ℕ → Bool → List (List ℕ) → List X → Sofar → List Term → Sofar → Type 0
  BehindAlong start under left ys s ts u = Along (BehindReads start under left) ys s ts u

  -- what is read of them
  pub behind_along : (start : ℕ) (under : Bool) (left : List (List ℕ)) (ys : List X) (s : Sofar) → Thus (BehindAlong start under left ys s) (each_behind start under left (parts ys) s)
  behind_along start under left ys s =
      thus_weaker (Tail (BehindReads start under left) ys [] s) (BehindAlong start under left ys s) (each_behind start under left (parts ys) s)
      (all_along (BehindReads start under left) (behind_step start under left) (λ y done v. one_along (BehindReads start under left) false under (left ++ drop start v.names) y done v (λ t u q. q)) ys [] s)
      (λ ts u r. whole_along (BehindReads start under left) ys s ts u r)

  -- together
  pub behind_together : (start : ℕ) (under : Bool) (left : List (List ℕ)) (ys : List X) (s : Sofar) (ts : List Term) (u : Sofar) → BehindAlong start under left ys s ts u → Together under ys s u
  behind_together start under left [] s [] u a = together_none under s u a
  behind_together start under left [] s (t ∷ ts) u a = absurd a
  behind_together start under left (y ∷ ys) s [] u a = absurd a
  behind_together start under left (y ∷ ys) s (t ∷ ts) u a = let so = a.1.0 in together_first under y ys s a.0 u so.newly so.brings (behind_together start under left ys a.0 ts u a.2)

  -- each behind what those before it bind
  pub behind_follow : (start : ℕ) (under : Bool) (left : List (List ℕ)) (ys : List X) (s : Sofar) (ts : List Term) (u : Sofar) → BehindAlong start under left ys s ts u → start ≤ length s.names → Whole u → (nums : List ℕ) → Left (left ++ drop start s.names) nums → follow nums (rules ts) ≡ true
  behind_follow start under left [] s [] u a low whole nums l = refl
  behind_follow start under left [] s (t ∷ ts) u a low whole nums l = absurd a
  behind_follow start under left (y ∷ ys) s [] u a low whole nums l = absurd a
  behind_follow start under left (y ∷ ys) s (t ∷ ts) u a low whole nums l =
      let v = a.0 in
      let r = behind_together start under left ys v ts u a.2 in
      let so = a.1.0 in let counts = a.1.1 in
      let many = counts.many in
      let here = within_before table scope inner w names under v u r.newly whole in
      and_from (stands_plain (rule t) nums) (follow (nums ++ (rule t).binds) (rules ts))
      (stands y under (left ++ drop start s.names) s t v a.1 here nums l)
      (behind_follow start under left ys v ts u a.2 (omega arith) whole (nums ++ (rule t).binds)
      (lefts_since table scope inner w names under s v so.newly (rule t).binds counts.in_order many here start left nums low l))
