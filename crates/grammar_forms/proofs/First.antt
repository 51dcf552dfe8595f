-- One form or another where both may begin alike: the first is the longer one.
use Rattle.std.proofs.Common.{◌≡◌, ◌<◌, ◌++◌}
use Rattle.grammar_forms.proofs.Common.{ℕ, true, List, Option, Some, None, refl, ap, ◌∙◌, ⊎_elim, inl, inr, arith, Either, Row, Reader, or_else, Covers, Good}
use Rattle.grammar_forms.specs.Rule.{has}
use Rattle.grammar_forms.proofs.Sets.{has_left, has_right, has_neither}
use Rattle.grammar_forms.proofs.Good.{or_else_some}

pub good_first : {A : Type 0} {row : Row} {P Q : A → ℕ → ℕ → Type 0} {r q : Reader A} {s e s' e' : List ℕ} → Good row P r s e → Good row Q q s' e' → (o : List ℕ) → ((a b : A) (at p i : ℕ) → P a at i → Q b at p → (p < i) × (has row o p ≡ true)) → Good row (Either P Q) (λ at. or_else (r at) (q at)) (s ++ s') (e ++ (e' ++ o))
good_first {A} {row} {P} {Q} {r} {q} {s} {e} {s'} {e'} g h o longer = record {
  sound = λ at x eq. ⊎_elim (λ i. inl (g.sound at x i)) (λ j. inr (h.sound at x j.1)) (or_else_some (r at) (q at) x eq);
  moves = λ x at end. ⊎_elim (λ i. g.moves x at end i) (λ j. h.moves x at end j);
  begins = λ x at end.
      ⊎_elim (λ i. has_left row s s' at (g.begins x at end i)) (λ j. has_right row s s' at (h.begins x at end j));
  covers = λ x at p.
      ⊎_elim
      (λ i.
      let c = g.covers x at p i in
      record {
        tree = c.tree;
        end = c.end;
        found = ap (λ o. or_else o (q at)) c.found;
        far = c.far;
        stops = λ z. c.stops (has_neither row e (e' ++ o) p z).0;
        same = c.same;
      })
      (λ j. second x at p j (r at) refl);
} where
  second : (x : A) (at p : ℕ) → Q x at p → (m : Option (A × ℕ)) → r at ≡ m → Covers row (λ at. or_else (r at) (q at)) (e ++ (e' ++ o)) at p x
  second x at p j None eq =
      let c = h.covers x at p j in
      record {
        tree = c.tree;
        end = c.end;
        found = ap (λ m. or_else m (q at)) eq ∙ c.found;
        far = c.far;
        stops = λ z. c.stops (has_neither row e' o p (has_neither row e (e' ++ o) p z).1).0;
        same = c.same;
      }
  second x at p j (Some y) eq =
      let l = longer y.0 x at p y.1 (g.sound at y eq) j in
      record {
        tree = y.0;
        end = y.1;
        found = ap (λ m. or_else m (q at)) eq;
        far = omega arith;
        stops = λ z. let isnt = (has_neither row e' o p (has_neither row e (e' ++ o) p z).1).1 in let is = l.1 in cc;
        same = λ z. absurd (omega arith);
      }
