-- The last of a row of statements.
use Rattle.std.proofs.Common.{◌≡◌, ℕ, ◌-◌, ◌≤◌, zero, suc, length, get_or, List, [], ◌∷◌, map, sym, ap, arith}
use Rattle.epl_tree.specs.declared.statement.Stmt.{Stmt}
use Rattle.stmt_check.specs.Endings.{ending_of, last_ends}

last_at : (xs : List Stmt) (x : Stmt) (n : ℕ) → suc n ≡ length xs → x ≡ get_or xs n x → last_ends (map ending_of xs) ≡ (ending_of x).last
last_at [] x n e h = absurd (omega arith)
last_at (y ∷ []) x zero e h = ap (λ z. (ending_of z).last) (sym h)
last_at (y ∷ []) x (suc n) e h = absurd (omega arith)
last_at (y ∷ z ∷ zs) x zero e h = absurd (omega arith)
last_at (y ∷ z ∷ zs) x (suc n) e h = last_at (z ∷ zs) x n (omega arith) h

pub last_is : (xs : List Stmt) (x : Stmt) → 1 ≤ length xs → x ≡ get_or xs (length xs - 1) x → last_ends (map ending_of xs) ≡ (ending_of x).last
last_is xs x le h = last_at xs x (length xs - 1) (omega arith) h
