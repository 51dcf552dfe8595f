-- Readers of nothing, of what is made of a tree, of one form after another, and of one form or another.
use Rattle.std.proofs.Common.{◌≡◌, ◌++◌}
use Rattle.std.specs.Prelude.{◌⊎◌}
use Rattle.grammar_forms.proofs.Common.{ℕ, true, List, Option, Some, None, refl, sym, ap, ◌∙◌, subst, ⊎_elim, inl, inr, arith, same_Some, Then, Either, Row, apart, all_in, Reader, or_else, Good}
use Rattle.grammar_forms.specs.Rule.{Nothing, Made, has}
use Rattle.grammar_forms.specs.Reader.{none, made, with, and_then}
use Rattle.grammar_forms.proofs.Sets.{apart_here, has_left, has_right, has_neither, has_in, lacks_in}

pub good_none : {A : Type 0} (row : Row) (starts ext : List ℕ) → Good {A = A} row Nothing none starts ext
good_none row starts ext = record {
  sound = λ at x h. cc;
  moves = λ a at end h. absurd h;
  begins = λ a at end h. absurd h;
  covers = λ a at p h. absurd h;
}

made_some : {A B : Type 0} (f : A → B) (o : Option (A × ℕ)) (x : B × ℕ) → made f o ≡ Some x → (y : A × ℕ) × (o ≡ Some y) × (x ≡ (f y.0, y.1))
made_some f None x h = cc
made_some f (Some y) x h = (y, refl, sym (same_Some _ _ h))

pub good_made : {A B : Type 0} (f : A → B) {row : Row} {P : A → ℕ → ℕ → Type 0} {r : Reader A} {s e : List ℕ} → Good row P r s e → Good row (Made f P) (λ at. made f (r at)) s e
good_made f {row} {P} {r} {s} {e} g = record {
  sound = λ at x h.
      let m = made_some f (r at) x h in
      (m.0.0, ap (λ y. y.0) m.2, subst (λ n. P m.0.0 at n) (ap (λ y. y.1) (sym m.2)) (g.sound at m.0 m.1));
  moves = λ b at end h. g.moves h.0 at end h.2;
  begins = λ b at end h. g.begins h.0 at end h.2;
  covers = λ b at p h.
      let c = g.covers h.0 at p h.2 in
      record {
        tree = f c.tree;
        end = c.end;
        found = ap (made f) c.found;
        far = c.far;
        stops = c.stops;
        same = λ q. ap f (c.same q) ∙ sym h.1;
      };
}

and_then_some : {A B : Type 0} (o : Option (A × ℕ)) (q : Reader B) (x : (A × B) × ℕ) → and_then o q ≡ Some x → (y : A × ℕ) × (z : B × ℕ) × (o ≡ Some y) × (q y.1 ≡ Some z) × (x ≡ ((y.0, z.0), z.1))
and_then_some None q x h = cc
and_then_some (Some y) q x h = inside (q y.1) refl h where
  inside : (o : Option (_ × ℕ)) → q y.1 ≡ o → with y.0 o ≡ Some x → (y' : _ × ℕ) × (z : _ × ℕ) × (Some y ≡ Some y') × (q y'.1 ≡ Some z) × (x ≡ ((y'.0, z.0), z.1))
  inside None e h = cc
  inside (Some z) e h = (y, z, refl, e, sym (same_Some _ _ h))

pub good_then : {A B : Type 0} {row : Row} {P : A → ℕ → ℕ → Type 0} {Q : B → ℕ → ℕ → Type 0} {r : Reader A} {q : Reader B} {s e s' e' : List ℕ} → Good row P r s e → Good row Q q s' e' → apart s' e ≡ true → Good row (Then P Q) (λ at. and_then (r at) q) s e'
good_then {row} {P} {Q} {r} {q} {s} {e} {s'} {e'} g h apart = record {
  sound = λ at x eq.
      let t = and_then_some (r at) q x eq in
      let y = t.0 in
      let z = t.1 in
      let same : x ≡ ((y.0, z.0), z.1) = t.4 in
      subst (λ (x : _ × ℕ). Then P Q x.0 at x.1) (sym same) (y.1, g.sound at y t.2, h.sound y.1 z t.3);
  moves = λ x at end i.
      let a = g.moves x.0 at i.0 i.1 in
      let b = h.moves x.1 i.0 end i.2 in
      (omega arith, b.1);
  begins = λ x at end i. g.begins x.0 at i.0 i.1;
  covers = λ x at p i.
      let mid = i.0 in
      let c = g.covers x.0 at mid i.1 in
      let d = h.covers x.1 mid p i.2 in
      let stop = c.stops (apart_here row s' e mid apart (h.begins x.1 mid p i.2)) in
      record {
        tree = (c.tree, d.tree);
        end = d.end;
        found = ap (λ o. and_then o q) c.found ∙ (ap (λ m. with c.tree (q m)) stop ∙ ap (with c.tree) d.found);
        far = d.far;
        stops = d.stops;
        same = λ z. ap (λ t. (t, d.tree)) (c.same stop) ∙ ap (λ u. (x.0, u)) (d.same z);
      };
}

pub or_else_some : {A : Type 0} (o o' : Option (A × ℕ)) (x : A × ℕ) → or_else o o' ≡ Some x → (o ≡ Some x) ⊎ ((o ≡ None) × (o' ≡ Some x))
or_else_some None o' x h = inr (refl, h)
or_else_some (Some y) o' x h = inl h

pub good_either : {A : Type 0} {row : Row} {P Q : A → ℕ → ℕ → Type 0} {r q : Reader A} {s e s' e' : List ℕ} → Good row P r s e → Good row Q q s' e' → apart s s' ≡ true → Good row (Either P Q) (λ at. or_else (r at) (q at)) (s ++ s') (e ++ e')
good_either {A} {row} {P} {Q} {r} {q} {s} {e} {s'} {e'} g h apart = record {
  sound = λ at x eq. ⊎_elim (λ i. inl (g.sound at x i)) (λ j. inr (h.sound at x j.1)) (or_else_some (r at) (q at) x eq);
  moves = λ x at end. ⊎_elim (λ i. g.moves x at end i) (λ j. h.moves x at end j);
  begins = λ x at end.
      ⊎_elim (λ i. has_left row s s' at (g.begins x at end i)) (λ j. has_right row s s' at (h.begins x at end j));
  covers = λ x at p.
      ⊎_elim
      (λ i.
      let c = g.covers x at p i in
      record {
        tree = c.tree;
        end = c.end;
        found = ap (λ o. or_else o (q at)) c.found;
        far = c.far;
        stops = λ z. c.stops (has_neither row e e' p z).0;
        same = c.same;
      })
      (λ j.
      let c = h.covers x at p j in
      record {
        tree = c.tree;
        end = c.end;
        found = ap (λ o. or_else o (q at)) (first_none at (h.begins x at p j) (r at) refl) ∙ c.found;
        far = c.far;
        stops = λ z. c.stops (has_neither row e e' p z).1;
        same = c.same;
      });
} where
  first_none : (at : ℕ) → has row s' at ≡ true → (o : Option (A × ℕ)) → r at ≡ o → r at ≡ None
  first_none at b None eq = eq
  first_none at b (Some x) eq =
      let no = apart_here row s s' at apart (g.begins x.0 at x.1 (g.sound at x eq)) in cc

pub good_in : {A : Type 0} {row : Row} {P : A → ℕ → ℕ → Type 0} {r : Reader A} {s e : List ℕ} (s' e' : List ℕ) → Good row P r s e → all_in s s' ≡ true → all_in e e' ≡ true → Good row P r s' e'
good_in {row = row} {s = s} {e = e} s' e' g a b = record {
  sound = g.sound;
  moves = g.moves;
  begins = λ x at end h. has_in row s s' at a (g.begins x at end h);
  covers = λ x at p h.
      let c = g.covers x at p h in
      record {
        tree = c.tree;
        end = c.end;
        found = c.found;
        far = c.far;
        stops = λ z. c.stops (lacks_in row e e' p b z);
        same = c.same;
      };
}
