-- One and then another, or none.
use Rattle.std.proofs.Common.{◌≡◌, ◌<◌, ◌≤◌, ◌++◌}
use Rattle.grammar_forms.proofs.Common.{ℕ, true, false, List, Option, Some, None, refl, sym, ap, ◌∙◌, subst, arith, same_Some, Then, Row, apart, Reader, Covers, Good}
use Rattle.grammar_forms.specs.Rule.{Optional, has}
use Rattle.grammar_forms.specs.Reader.{or_none, and_optional}
use Rattle.grammar_forms.proofs.Sets.{apart_here, has_neither}

or_none_form : {A B : Type 0} (P : A → ℕ → ℕ → Type 0) (Q : B → ℕ → ℕ → Type 0) (a : A) (at mid : ℕ) (o : Option (B × ℕ)) (x : (A × Option B) × ℕ) → P a at mid → ((y : B × ℕ) → o ≡ Some y → Q y.0 mid y.1) → or_none a mid o ≡ Some x → Then P (Optional Q) x.0 at x.1
or_none_form P Q a at mid None x i read h =
    subst (λ (x : _ × ℕ). Then P (Optional Q) x.0 at x.1) (same_Some _ _ h) (mid, i, refl)
or_none_form P Q a at mid (Some y) x i read h =
    subst (λ (x : _ × ℕ). Then P (Optional Q) x.0 at x.1) (same_Some _ _ h) (mid, i, read y refl)

and_optional_some : {A B : Type 0} (o : Option (A × ℕ)) (q : Reader B) (x : (A × Option B) × ℕ) → and_optional o q ≡ Some x → (y : A × ℕ) × (o ≡ Some y) × (or_none y.0 y.1 (q y.1) ≡ Some x)
and_optional_some None q x h = cc
and_optional_some (Some y) q x h = (y, refl, h)

pub good_and_optional : {A B : Type 0} {row : Row} {P : A → ℕ → ℕ → Type 0} {Q : B → ℕ → ℕ → Type 0} {r : Reader A} {q : Reader B} {s e s' e' : List ℕ} → Good row P r s e → Good row Q q s' e' → apart s' e ≡ true → Good row (Then P (Optional Q)) (λ at. and_optional (r at) q) s (e ++ (e' ++ s'))
good_and_optional {A} {B} {row} {P} {Q} {r} {q} {s} {e} {s'} {e'} g h a = record {
  sound = λ at x eq.
      let t = and_optional_some (r at) q x eq in
      or_none_form P Q t.0.0 at t.0.1 (q t.0.1) x (g.sound at t.0 t.1) (λ y k. h.sound t.0.1 y k) t.2;
  moves = λ x at end i. moved x.1 at i.0 end (g.moves x.0 at i.0 i.1) i.2;
  begins = λ x at end i. g.begins x.0 at i.0 i.1;
  covers = λ x at p i. from x.0 x.1 at i.0 p (g.covers x.0 at i.0 i.1) i.2;
} where
  moved : (o : Option B) (at mid end : ℕ) → (at < mid) × (mid ≤ row.len) → Optional Q o mid end → (at < end) × (end ≤ row.len)
  moved None at mid end m i = (omega arith, omega arith)
  moved (Some b) at mid end m i = let k = h.moves b mid end i in (omega arith, k.1)

  parts : (p : ℕ) → has row (e ++ (e' ++ s')) p ≡ false → (has row e p ≡ false) × (has row e' p ≡ false) × (has row s' p ≡ false)
  parts p z =
      let y = has_neither row e (e' ++ s') p z in
      let w = has_neither row e' s' p y.1 in (y.0, w.0, w.1)

  from : (b : A) (o : Option B) (at mid p : ℕ) → Covers row r e at mid b → Optional Q o mid p → Covers row (λ at. and_optional (r at) q) (e ++ (e' ++ s')) at p (b, o)
  from b None at mid p c i = by_turn (q c.end) refl where
    stops : has row (e ++ (e' ++ s')) p ≡ false → c.end ≡ p
    stops z = c.stops (subst (λ n. has row e n ≡ false) i (parts p z).0) ∙ sym i

    by_turn : (k : Option (B × ℕ)) → q c.end ≡ k → Covers row (λ at. and_optional (r at) q) (e ++ (e' ++ s')) at p (b, None)
    by_turn None eq = record {
      tree = (c.tree, None);
      end = c.end;
      found = ap (λ o. and_optional o q) c.found ∙ ap (or_none c.tree c.end) eq;
      far = let f = c.far in omega arith;
      stops = stops;
      same = λ z. ap (λ t. (t, None)) (c.same (z ∙ i));
    }
    by_turn (Some y) eq =
        let form = h.sound c.end y eq in
        let k = h.moves y.0 c.end y.1 form in
        let f = c.far in
        record {
          tree = (c.tree, Some y.0);
          end = y.1;
          found = ap (λ o. and_optional o q) c.found ∙ ap (or_none c.tree c.end) eq;
          far = omega arith;
          stops = λ z.
              let is = subst (λ n. has row s' n ≡ true) (stops z) (h.begins y.0 c.end y.1 form) in
              let isnt = (parts p z).2 in cc;
          same = λ z. absurd (omega arith);
        }
  from b (Some d) at mid p c i =
      let stop = c.stops (apart_here row s' e mid a (h.begins d mid p i)) in
      let k = h.covers d mid p i in
      record {
        tree = (c.tree, Some k.tree);
        end = k.end;
        found = ap (λ o. and_optional o q) c.found ∙ (ap (λ m. or_none c.tree m (q m)) stop ∙ ap (or_none c.tree mid) k.found);
        far = k.far;
        stops = λ z. k.stops (parts p z).1;
        same = λ z. ap (λ t. (t, Some k.tree)) (c.same stop) ∙ ap (λ t. (b, Some t)) (k.same z);
      }
