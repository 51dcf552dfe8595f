-- One and then another exactly where a class comes next; what passes a test; what begins with a class.
use Rattle.std.proofs.Common.{◌≡◌, ◌<◌, ◌≤◌}
use Rattle.grammar_forms.proofs.Common.{ℕ, Bool, true, false, cond, List, [], Option, Some, None, refl, sym, ap, ◌∙◌, subst, arith, same_Some, cond_some, Then, Row, Reader, Covers, Good}
use Rattle.grammar_forms.specs.Rule.{Where, Such, Starting, has}
use Rattle.grammar_forms.specs.Reader.{with_some, and_where, such, starting}
use Rattle.grammar_forms.proofs.Sets.{lacks}

or_where_form : {A B : Type 0} (row : Row) (set : List ℕ) (P : A → ℕ → ℕ → Type 0) (Q : B → ℕ → ℕ → Type 0) (y : A × ℕ) (at : ℕ) (o : Option (B × ℕ)) (x : (A × Option B) × ℕ) → P y.0 at y.1 → ((z : B × ℕ) → o ≡ Some z → Q z.0 y.1 z.1) → (b : Bool) → has row set (y.1) ≡ b → cond b (with_some y.0 o) (Some ((y.0, None), y.1)) ≡ Some x → Then P (Where row set Q) x.0 at x.1
or_where_form row set P Q y at None x i read true t h = cc
or_where_form row set P Q y at (Some z) x i read true t h =
    subst (λ (x : _ × ℕ). Then P (Where row set Q) x.0 at x.1) (same_Some _ _ h) (y.1, i, (t, read z refl))
or_where_form row set P Q y at o x i read false t h =
    subst (λ (x : _ × ℕ). Then P (Where row set Q) x.0 at x.1) (same_Some _ _ h)
    (y.1, i, (t, refl))

and_where_some : {A B : Type 0} (row : Row) (set : List ℕ) (o : Option (A × ℕ)) (q : Reader B) (x : (A × Option B) × ℕ) → and_where row set o q ≡ Some x → (y : A × ℕ) × (o ≡ Some y) × (cond (has row set (y.1)) (with_some y.0 (q y.1)) (Some ((y.0, None), y.1)) ≡ Some x)
and_where_some row set None q x h = cc
and_where_some row set (Some y) q x h = (y, refl, h)

-- Nothing may extend the first.
pub good_and_where : {A B : Type 0} {row : Row} {P : A → ℕ → ℕ → Type 0} {Q : B → ℕ → ℕ → Type 0} {r : Reader A} {q : Reader B} {s s' e' : List ℕ} (set : List ℕ) → Good row P r s [] → Good row Q q s' e' → Good row (Then P (Where row set Q)) (λ at. and_where row set (r at) q) s e'
good_and_where {A} {B} {row} {P} {Q} {r} {q} {s} {s'} {e'} set g h = record {
  sound = λ at x eq.
      let t = and_where_some row set (r at) q x eq in
      or_where_form row set P Q t.0 at (q t.0.1) x (g.sound at t.0 t.1) (λ y k. h.sound t.0.1 y k) (has row set (t.0.1)) refl t.2;
  moves = λ x at end i. moved x.1 at i.0 end (g.moves x.0 at i.0 i.1) i.2;
  begins = λ x at end i. g.begins x.0 at i.0 i.1;
  covers = λ x at p i. from x.0 x.1 at i.0 p (g.covers x.0 at i.0 i.1) i.2;
} where
  moved : (o : Option B) (at mid end : ℕ) → (at < mid) × (mid ≤ row.len) → Where row set Q o mid end → (at < end) × (end ≤ row.len)
  moved None at mid end m i = let e = i.1 in (omega arith, omega arith)
  moved (Some b) at mid end m i = let k = h.moves b mid end i.1 in (omega arith, k.1)

  read : (b : A) (at m : ℕ) → r at ≡ Some (b, m) → (t : Bool) → has row set (m) ≡ t → and_where row set (r at) q ≡ cond t (with_some b (q m)) (Some ((b, None), m))
  read b at m f t eq = ap (λ o. and_where row set o q) f ∙ ap (λ t. cond t (with_some b (q m)) (Some ((b, None), m))) eq

  from : (b : A) (o : Option B) (at mid p : ℕ) → Covers row r [] at mid b → Where row set Q o mid p → Covers row (λ at. and_where row set (r at) q) e' at p (b, o)
  from b None at mid p c i =
      let stop = c.stops (lacks row mid) in
      let e = i.1 in
      record {
        tree = (c.tree, None);
        end = c.end;
        found = read c.tree at c.end c.found false (ap (λ m. has row set m) stop ∙ i.0);
        far = omega arith;
        stops = λ _. stop ∙ sym i.1;
        same = λ _. ap (λ t. (t, None)) (c.same stop);
      }
  from b (Some d) at mid p c i =
      let stop = c.stops (lacks row mid) in
      let k = h.covers d mid p i.1 in
      record {
        tree = (c.tree, Some k.tree);
        end = k.end;
        found = read c.tree at c.end c.found true (ap (λ m. has row set m) stop ∙ i.0)
            ∙ (ap (λ m. with_some c.tree (q m)) stop ∙ ap (with_some c.tree) k.found);
        far = k.far;
        stops = k.stops;
        same = λ z. ap (λ t. (t, Some k.tree)) (c.same stop) ∙ ap (λ t. (b, Some t)) (k.same z);
      }

such_some : {A : Type 0} (test : A → Bool) (o : Option (A × ℕ)) (x : A × ℕ) → such test o ≡ Some x → (o ≡ Some x) × (test x.0 ≡ true)
such_some test None x h = cc
such_some test (Some y) x h =
    let b = cond_some (test y.0) y x h in (ap Some b.1, subst (λ (z : _ × ℕ). test z.0 ≡ true) b.1 b.0)

pub good_such : {A : Type 0} {row : Row} {P : A → ℕ → ℕ → Type 0} {r : Reader A} {s : List ℕ} (test : A → Bool) → Good row P r s [] → Good row (Such test P) (λ at. such test (r at)) s []
good_such {A} {row} {P} {r} {s} test g = record {
  sound = λ at x eq. let t = such_some test (r at) x eq in (t.1, g.sound at x t.0);
  moves = λ x at end i. g.moves x at end i.1;
  begins = λ x at end i. g.begins x at end i.1;
  covers = λ x at p i.
      let c = g.covers x at p i.1 in
      let stop = c.stops (lacks row p) in
      record {
        tree = c.tree;
        end = c.end;
        found = ap (such test) c.found ∙ ap (λ b. cond b (Some (c.tree, c.end)) None) (ap test (c.same stop) ∙ i.0);
        far = c.far;
        stops = c.stops;
        same = c.same;
      };
}

pub good_starting : {A : Type 0} {row : Row} {P : A → ℕ → ℕ → Type 0} {r : Reader A} {s e : List ℕ} (set : List ℕ) → Good row P r s e → Good row (Starting row set P) (λ at. starting row set at (r at)) set e
good_starting {A} {row} {P} {r} {s} {e} set g = record {
  sound = λ at x eq. inside at (has row set at) refl x eq;
  moves = λ x at end i. g.moves x at end i.1;
  begins = λ x at end i. i.0;
  covers = λ x at p i.
      let c = g.covers x at p i.1 in
      record {
        tree = c.tree;
        end = c.end;
        found = ap (λ b. cond b (r at) None) i.0 ∙ c.found;
        far = c.far;
        stops = c.stops;
        same = c.same;
      };
} where
  inside : (at : ℕ) (b : Bool) → has row set at ≡ b → (x : A × ℕ) → cond b (r at) None ≡ Some x → Starting row set P x.0 at x.1
  inside at true h x eq = (h, g.sound at x eq)
  inside at false h x eq = cc
