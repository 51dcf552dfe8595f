-- A recursion on a count of turns, beside a loop that counts up.
use Rattle.std.proofs.Common.{◌≡◌, ◌+◌, ◌-◌, ◌<◌, ◌≤◌, ◌∷◌, ◌++◌}
use Rattle.grammar_forms.proofs.Common.{ℕ, suc, List, [], Some, None, true, false, cond, ap, ◌∙◌, arith, Row, Reader, more}
use Rattle.grammar_forms.specs.Rule.{has}
use Rattle.grammar_forms.specs.Reader.{many, run_end}

pub one_more : {X : Type 0} {x : X} (f : ℕ → X) (n at : ℕ) → at < n → x ≡ f (n - at) → x ≡ f (suc (n - (at + 1)))
one_more f n at below e = let turn : n - at ≡ suc (n - (at + 1)) = omega arith in e ∙ ap f turn

pub no_more : {X : Type 0} {x : X} (f : ℕ → X) (n at : ℕ) → n ≤ at → x ≡ f (n - at) → x ≡ f 0
no_more f n at done e = let none : n - at ≡ 0 = omega arith in e ∙ ap f none

pub deeper : {X : Type 0} (f : ℕ → X) (n : ℕ) → 0 < n → f n ≡ f (suc (n - 1))
deeper f n some = let e : n ≡ suc (n - 1) = omega arith in ap f e

-- one turn
pub many_none : {A : Type 0} (r : Reader A) (n t at : ℕ) (found : List A) → t < n → r at ≡ None → many r (n - t) at found ≡ (found, at)
unfolding many
many_none r n t at found below e =
    let turn : n - t ≡ suc (n - (t + 1)) = omega arith in
    ap (λ k. many r k at found) turn ∙ ap (λ o. more o at found (many r (n - (t + 1)))) e

pub many_some : {A : Type 0} (r : Reader A) (n t at : ℕ) (found : List A) (x : A) (next : ℕ) → t < n → r at ≡ Some (x, next) → many r (n - t) at found ≡ many r (n - (t + 1)) next (found ++ x ∷ [])
unfolding many
many_some r n t at found x next below e =
    let turn : n - t ≡ suc (n - (t + 1)) = omega arith in
    ap (λ k. many r k at found) turn ∙ ap (λ o. more o at found (many r (n - (t + 1)))) e

pub many_over : {A : Type 0} (r : Reader A) (n t at : ℕ) (found : List A) → n ≤ t → many r (n - t) at found ≡ (found, at)
unfolding many
many_over r n t at found done = let none : n - t ≡ 0 = omega arith in ap (λ k. many r k at found) none

pub ruleset turns = (many_none, many_some, many_over)

-- a run goes on where an item of the classes stands, and ends where none does or the row ends
module _ (row : Row) (set : List ℕ) (n at : ℕ) where
  turn : at < n → run_end row set (n - at) at ≡ cond (has row set at) (run_end row set (n - (at + 1)) (at + 1)) at
  unfolding run_end
  turn h = let e : n - at ≡ suc (n - (at + 1)) = omega arith in ap (λ k. run_end row set k at) e

  pub run_on : at < n → has row set at ≡ true → run_end row set (n - at) at ≡ run_end row set (n - (at + 1)) (at + 1)
  run_on h e = turn h ∙ ap (λ b. cond b (run_end row set (n - (at + 1)) (at + 1)) at) e

  pub run_off : at < n → has row set at ≡ false → run_end row set (n - at) at ≡ at
  run_off h e = turn h ∙ ap (λ b. cond b (run_end row set (n - (at + 1)) (at + 1)) at) e

  pub run_out : n ≤ at → run_end row set (n - at) at ≡ at
  unfolding run_end
  run_out h = let e : n - at ≡ 0 = omega arith in ap (λ k. run_end row set k at) e

pub ruleset runs = (run_on, run_off, run_out)
