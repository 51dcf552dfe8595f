-- As many of some classes as there are, and at least one.
use Rattle.std.specs.Prelude.{◌⊎◌}
use Rattle.grammar_forms.proofs.Common.{ℕ, zero, suc, Bool, true, false, cond, List, Some, None, refl, sym, ap, subst, ⊎_elim, inl, inr, arith, cases_eq, same_Some, LiesInside, Row, Covers, Good}
use Rattle.std.proofs.Common.{◌≡◌, ◌+◌, ◌-◌, ◌<◌, ◌≤◌, nat_lt}
use Rattle.std.proofs.lemmas.Bool.{cases_lt, ltb-true, lt-ltb}
use Rattle.grammar_forms.specs.Rule.{IsRun, has}
use Rattle.grammar_forms.specs.Reader.{run_end, run_at}

pub record Ends (row : Row) (set : List ℕ) (n at : ℕ) : Type 0 where
  pub not_before : at ≤ run_end row set n at
  pub not_past : run_end row set n at ≤ at + n
  pub each : (i : ℕ) → at ≤ i → i < run_end row set n at → has row set i ≡ true
  pub last : run_end row set n at < at + n → has row set (run_end row set n at) ≡ false

pub ends : (row : Row) (set : List ℕ) (n at : ℕ) → Ends row set n at
unfolding run_end
ends row set zero at = record {
  not_before = omega arith;
  not_past = omega arith;
  each = λ i a b. absurd (omega arith);
  last = λ h. absurd (omega arith);
}
ends row set (suc n) at = by_test (ends row set n (at + 1)) (has row set at) refl where
  by_test : Ends row set n (at + 1) → (b : Bool) → has row set at ≡ b → Ends row set (suc n) at
  by_test rest true h = record {
    not_before = let a = rest.not_before in omega (arith, same);
    not_past = let a = rest.not_past in omega (arith, same);
    each = λ i a b.
        ⊎_elim (λ e. subst (λ k. has row set k ≡ true) (sym e) h) (λ other. rest.each i (omega arith) (subst (λ k. i < k) same b)) (cases_eq i at);
    last = λ lt. subst (λ k. has row set k ≡ false) (sym same) (rest.last (omega (arith, same)));
  } where
    same : run_end row set (suc n) at ≡ run_end row set n (at + 1)
    same = ap (λ b. cond b (run_end row set n (at + 1)) at) h
  by_test rest false h = record {
    not_before = omega (arith, same);
    not_past = omega (arith, same);
    each = λ i a b. absurd (omega (arith, same));
    last = λ lt. subst (λ k. has row set k ≡ false) (sym same) h;
  } where
    same : run_end row set (suc n) at ≡ at
    same = ap (λ b. cond b (run_end row set n (at + 1)) at) h

run_some : (b : Bool) (m : ℕ) (x : Unit {0} × ℕ) → cond b (Some (tt, m)) None ≡ Some x → (b ≡ true) × (m ≡ x.1)
run_some true m x h = (refl, ap (λ y. y.1) (same_Some _ _ h))
run_some false m x h = cc

-- past the end there is nothing of the set
pub good_run : (row : Row) (set : List ℕ) → LiesInside row set → Good row (λ (_ : Unit {0}) at end. IsRun row set at end) (run_at row set) set set
unfolding run_at
good_run row set inside = record {
  sound = λ at x eq.
      let end = run_end row set (row.len - at) at in
      let r = ends row set (row.len - at) at in
      let t = run_some (nat_lt at end) end x eq in
      let lt : at < end = ltb-true at end t.0 in
      let past = r.not_past in
      subst (λ n. IsRun row set at n) t.1 (record { some = lt; within = omega arith; each = r.each });
  moves = λ a at end h. (h.some, h.within);
  begins = λ a at end h. h.each at (omega arith) h.some;
  covers = λ a at p h. from at p h (ends row set (row.len - at) at);
} where
  reach : (at p : ℕ) → IsRun row set at p → (r : Ends row set (row.len - at) at) → (run_end row set (row.len - at) at < p) ⊎ (p ≤ run_end row set (row.len - at) at) → p ≤ run_end row set (row.len - at) at
  reach at p h r (inl lt) =
      let w = h.within in
      let isnt = r.last (omega arith) in
      let is = h.each (run_end row set (row.len - at) at) r.not_before lt in cc
  reach at p h r (inr le) = le

  stop : (at p : ℕ) → IsRun row set at p → (r : Ends row set (row.len - at) at) → has row set p ≡ false → (p < run_end row set (row.len - at) at) ⊎ (run_end row set (row.len - at) at ≤ p) → p ≤ run_end row set (row.len - at) at → run_end row set (row.len - at) at ≡ p
  stop at p h r z (inl lt) far = let s = h.some in let is = r.each p (omega arith) lt in cc
  stop at p h r z (inr le) far = omega arith

  from : (at p : ℕ) → IsRun row set at p → Ends row set (row.len - at) at → Covers row (run_at row set) set at p tt
  from at p h r =
      let end = run_end row set (row.len - at) at in
      let far = reach at p h r (cases_lt end p) in
      record {
        tree = tt;
        end = end;
        found = ap (λ b. cond b (Some (tt, end)) None) (lt-ltb at end (let s = h.some in omega arith));
        far = far;
        stops = λ z. stop at p h r z (cases_lt p end) far;
        same = λ _. refl;
      }
