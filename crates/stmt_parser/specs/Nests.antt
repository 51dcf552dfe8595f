-- A function value that reads the statements that lie in a statement.
use Rattle.std.specs.Prelude.{◌≡◌, ℕ, List, Option, Result, IfOk}
use Rattle.std.specs.Borrow.{Bor}
use Rattle.std.specs.declared.alloc.Global.{Global}
use Rattle.std.specs.declared.alloc.AllocError.{AllocError}
use Rattle.epl_lexer.specs.declared.token.Token.{Token}
use Rattle.epl_tree.specs.declared.statement.Stmt.{Stmt}
use Rattle.stmt_parser.specs.Reading.{stmt_at}

-- It may be called at a depth, and reads statements there.
pub record Nests (depth : ℕ) (pre : Global → Bor (List Token) → ℕ → ℕ → Type 0)
    (post : Global → Bor (List Token) → ℕ → ℕ → Result (Option (Stmt × ℕ)) AllocError → Type 0) : Type 0 where
  pub callable : (alloc : Global) (tokens : Bor (List Token)) (at : ℕ) → pre alloc tokens depth at
  pub reads : (alloc : Global) (tokens : Bor (List Token)) (at : ℕ) (r : Result (Option (Stmt × ℕ)) AllocError)
      → post alloc tokens depth at r → IfOk r (λ x. x ≡ stmt_at tokens.now depth at)
