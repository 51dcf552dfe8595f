-- One and then as many of another as there are.
use Rattle.grammar_forms.proofs.Common.{ℕ, zero, suc, true, false, List, [], Option, Some, None, refl, sym, ap, ◌∙◌, subst, ⊎_elim, arith, cases_eq, same_Some, Then, Row, apart, Reader, more, Covers, Good}
use Rattle.std.proofs.Common.{◌≡◌, ◌+◌, ◌-◌, ◌<◌, ◌≤◌, ◌∷◌, ◌++◌, append_assoc, append-nil}
use Rattle.grammar_forms.specs.Rule.{Many, has}
use Rattle.grammar_forms.specs.Reader.{many, and_many}
use Rattle.grammar_forms.proofs.Sets.{apart_here, has_neither}

-- what a run of turns gives: more at the end, of the form, up to a place
record Run {B : Type 0} (Q : B → ℕ → ℕ → Type 0) (q : Reader B) (n at : ℕ) (found : List B) : Type 0 where
  tail : List B
  end : ℕ
  is : many q n at found ≡ (found ++ tail, end)
  form : Many Q tail at end

run : {B : Type 0} {row : Row} {Q : B → ℕ → ℕ → Type 0} {q : Reader B} {s e : List ℕ} → Good row Q q s e → (n at : ℕ) (found : List B) → Run Q q n at found
unfolding many
run g zero at found = record { tail = []; end = at; is = ap (λ l. (l, at)) (sym (append-nil found)); form = refl }
run {B} {row} {Q} {q} g (suc n) at found = by_turn (λ i l. run g n i l) (q at) refl where
  by_turn : ((i : ℕ) (l : List B) → Run Q q n i l) → (o : Option (B × ℕ)) → q at ≡ o → Run Q q (suc n) at found
  by_turn go None eq = record {
    tail = [];
    end = at;
    is = ap (λ o. more o at found (many q n)) eq ∙ ap (λ l. (l, at)) (sym (append-nil found));
    form = refl;
  }
  by_turn go (Some x) eq =
      let rest = go x.1 (found ++ x.0 ∷ []) in
      record {
        tail = x.0 ∷ rest.tail;
        end = rest.end;
        is = ap (λ o. more o at found (many q n)) eq ∙ (rest.is ∙ ap (λ l. (l, rest.end)) (append_assoc found (x.0 ∷ []) rest.tail));
        form = (x.1, g.sound at x eq, rest.form);
      }

-- a run does not go back, and goes on where it has an item
forward : {B : Type 0} {row : Row} {Q : B → ℕ → ℕ → Type 0} {q : Reader B} {s e : List ℕ} → Good row Q q s e → (xs : List B) (at end : ℕ) → Many Q xs at end → at ≤ end
forward g [] at end h = omega arith
forward g (x ∷ xs) at end h = let a = g.moves x at h.0 h.1 in let b = forward g xs h.0 end h.2 in omega arith

-- no item begins here, so there is none
none_begins : {B : Type 0} {row : Row} {Q : B → ℕ → ℕ → Type 0} {q : Reader B} {s e : List ℕ} → Good row Q q s e → (xs : List B) (at end : ℕ) → Many Q xs at end → has row s at ≡ false → end ≡ at
none_begins g [] at end h isnt = h
none_begins g (x ∷ xs) at end h isnt = let yes = g.begins x at h.0 h.1 in cc

-- no item has no token
none_there : {B : Type 0} {row : Row} {Q : B → ℕ → ℕ → Type 0} {q : Reader B} {s e : List ℕ} → Good row Q q s e → (xs : List B) (at end : ℕ) → Many Q xs at end → end ≡ at → xs ≡ []
none_there g [] at end h same = refl
none_there g (x ∷ xs) at end h same =
    let a = g.moves x at h.0 h.1 in let b = forward g xs h.0 end h.2 in absurd (omega arith)

-- what a run of turns has to answer where these items span up to p
record Reaches {B : Type 0} (row : Row) (q : Reader B) (s e : List ℕ) (n at p : ℕ) (found xs : List B) : Type 0 where
  tail : List B
  end : ℕ
  is : many q n at found ≡ (found ++ tail, end)
  far : p ≤ end
  stops : has row e p ≡ false → has row s p ≡ false → end ≡ p
  same : end ≡ p → tail ≡ xs

reaches : {B : Type 0} {row : Row} {Q : B → ℕ → ℕ → Type 0} {q : Reader B} {s e : List ℕ} → Good row Q q s e → apart s e ≡ true → (xs : List B) (n at p : ℕ) (found : List B) → Many Q xs at p → row.len ≤ n + at → Reaches row q s e n at p found xs
unfolding many
reaches {row = row} {s = s} g a [] n at p found h enough =
    let r = run g n at found in
    let f = forward g r.tail at r.end r.form in
    record {
      tail = r.tail;
      end = r.end;
      is = r.is;
      far = omega arith;
      stops = λ _ isnt. subst (λ i. has row s i ≡ false → r.end ≡ i) (sym h) (none_begins g r.tail at r.end r.form) isnt;
      same = λ z. none_there g r.tail at r.end r.form (z ∙ h);
    }
reaches g a (x ∷ xs) zero at p found h enough = let m = g.moves x at h.0 h.1 in absurd (omega arith)
reaches {B} {row} {Q} {q} {s} {e} g a (x ∷ xs) (suc n) at p found h enough =
    ⊎_elim (on (λ l. reaches g a xs n mid p l h.2 (omega (arith, moved.0)))) over (cases_eq c.end mid) where
      mid : ℕ
      mid = h.0

      moved : (at < h.0) × (h.0 ≤ row.len)
      moved = g.moves x at h.0 h.1

      c : Covers row q e at h.0 x
      c = g.covers x at h.0 h.1

      turn : many q (suc n) at found ≡ many q n c.end (found ++ c.tree ∷ [])
      turn = ap (λ o. more o at found (many q n)) c.found

      on : ((l : List B) → Reaches row q s e n mid p l xs) → c.end ≡ mid → Reaches row q s e (suc n) at p found (x ∷ xs)
      on go eq =
          let i = go (found ++ c.tree ∷ []) in
          record {
            tail = c.tree ∷ i.tail;
            end = i.end;
            is = turn ∙ (ap (λ m. many q n m (found ++ c.tree ∷ [])) eq ∙ (i.is ∙ ap (λ l. (l, i.end)) (append_assoc found (c.tree ∷ []) i.tail)));
            far = i.far;
            stops = i.stops;
            same = λ z. ap (λ t. t ∷ i.tail) (c.same eq) ∙ ap (λ l. x ∷ l) (i.same z);
          }

      last : (ys : List B) → Many Q ys h.0 p → (c.end ≡ h.0 → ⊥) → p ≡ h.0
      last [] m isnt = m
      last (y ∷ ys) m isnt = absurd (isnt (c.stops (apart_here row s e h.0 a (g.begins y h.0 m.0 m.1))))

      over : (c.end ≡ mid → ⊥) → Reaches row q s e (suc n) at p found (x ∷ xs)
      over isnt =
          let r = run g n c.end (found ++ c.tree ∷ []) in
          let f = forward g r.tail c.end r.end r.form in
          let there = last xs h.2 isnt in
          let far = c.far in
          record {
            tail = c.tree ∷ r.tail;
            end = r.end;
            is = turn ∙ (r.is ∙ ap (λ l. (l, r.end)) (append_assoc found (c.tree ∷ []) r.tail));
            far = omega arith;
            stops = λ z _. absurd (isnt (c.stops (subst (λ i. has row e i ≡ false) there z)));
            same = λ z. absurd (isnt (omega arith));
          }

and_many_some : {A B : Type 0} (len : ℕ) (o : Option (A × ℕ)) (q : Reader B) (x : (A × List B) × ℕ) → and_many len o q ≡ Some x → (y : A × ℕ) × (o ≡ Some y) × (x ≡ ((y.0, (many q (len - y.1) y.1 []).0), (many q (len - y.1) y.1 []).1))
and_many_some len None q x h = cc
and_many_some len (Some y) q x h = (y, refl, sym (same_Some _ _ h))

pub good_and_many : {A B : Type 0} {row : Row} {P : A → ℕ → ℕ → Type 0} {Q : B → ℕ → ℕ → Type 0} {r : Reader A} {q : Reader B} {s e s' e' : List ℕ} → Good row P r s e → Good row Q q s' e' → apart s' e ≡ true → apart s' e' ≡ true → Good row (Then P (Many Q)) (λ at. and_many (row.len) (r at) q) s (e ++ (e' ++ s'))
good_and_many {A} {B} {row} {P} {Q} {r} {q} {s} {e} {s'} {e'} g h a a' = record {
  sound = λ at x eq.
      let t = and_many_some (row.len) (r at) q x eq in
      let y = t.0 in
      let i = run h (row.len - y.1) y.1 [] in
      let same : x ≡ ((y.0, i.tail), i.end) = t.2 ∙ ap (λ m. ((y.0, m.0), m.1)) i.is in
      subst (λ (x : _ × ℕ). Then P (Many Q) x.0 at x.1) (sym same) (y.1, g.sound at y t.1, i.form);
  moves = λ x at end i.
      let m = g.moves x.0 at i.0 i.1 in
      let n = within x.1 i.0 end m.1 i.2 in
      (omega arith, n.1);
  begins = λ x at end i. g.begins x.0 at i.0 i.1;
  covers = λ x at p i. from at p x i (g.covers x.0 at i.0 i.1);
} where
  within : (xs : List B) (at end : ℕ) → at ≤ row.len → Many Q xs at end → (at ≤ end) × (end ≤ row.len)
  within [] at end le m = (omega arith, omega arith)
  within (x ∷ xs) at end le m = let k = h.moves x at m.0 m.1 in let l = within xs m.0 end k.1 m.2 in (omega arith, l.1)

  last : (xs : List B) (mid p : ℕ) → Many Q xs mid p → (has row e mid ≡ false → ⊥) → p ≡ mid
  last [] mid p m goes = m
  last (x ∷ xs) mid p m goes = absurd (goes (apart_here row s' e mid a (h.begins x mid m.0 m.1)))

  from : (at p : ℕ) (x : A × List B) (i : Then P (Many Q) x at p) → Covers row r e at i.0 x.0 → Covers row (λ at. and_many (row.len) (r at) q) (e ++ (e' ++ s')) at p x
  from at p x i c = ⊎_elim on over (cases_eq c.end i.0) where
    len : ℕ
    len = row.len

    parts : has row (e ++ (e' ++ s')) p ≡ false → (has row e p ≡ false) × (has row e' p ≡ false) × (has row s' p ≡ false)
    parts z =
        let y = has_neither row e (e' ++ s') p z in
        let w = has_neither row e' s' p y.1 in (y.0, w.0, w.1)

    read : (n : ℕ) (t : List B) (end : ℕ) → c.end ≡ n → many q (len - n) n [] ≡ (t, end) → and_many len (r at) q ≡ Some ((c.tree, t), end)
    read n t end eq is =
        ap (λ o. and_many len o q) c.found
        ∙ ap (λ (m : List B × ℕ). Some ((c.tree, m.0), m.1)) (ap (λ k. many q (len - k) k []) eq ∙ is)

    on : c.end ≡ i.0 → Covers row (λ at. and_many (row.len) (r at) q) (e ++ (e' ++ s')) at p x
    on eq =
        let m = reaches h a' x.1 (len - i.0) i.0 p [] i.2 (omega arith) in
        record {
          tree = (c.tree, m.tail);
          end = m.end;
          found = read i.0 m.tail m.end eq m.is;
          far = m.far;
          stops = λ z. let y = parts z in m.stops y.1 y.2;
          same = λ z. ap (λ t. (t, m.tail)) (c.same eq) ∙ ap (λ u. (x.0, u)) (m.same z);
        }

    over : (c.end ≡ i.0 → ⊥) → Covers row (λ at. and_many (row.len) (r at) q) (e ++ (e' ++ s')) at p x
    over goes =
        let m = run h (len - c.end) c.end [] in
        let f = forward h m.tail c.end m.end m.form in
        let there = last x.1 i.0 p i.2 (λ z. goes (c.stops z)) in
        let far = c.far in
        record {
          tree = (c.tree, m.tail);
          end = m.end;
          found = read c.end m.tail m.end refl m.is;
          far = omega arith;
          stops = λ z. absurd (goes (c.stops (subst (λ k. has row e k ≡ false) there (parts z).0)));
          same = λ z. absurd (goes (omega arith));
        }
