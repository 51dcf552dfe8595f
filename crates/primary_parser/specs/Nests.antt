-- A function value that reads what is nested one deeper.
use Rattle.std.specs.Prelude.{◌≡◌, ℕ, List, Option, Result, IfOk}
use Rattle.std.specs.Borrow.{Bor}
use Rattle.std.specs.declared.alloc.Global.{Global}
use Rattle.std.specs.declared.alloc.AllocError.{AllocError}
use Rattle.epl_lexer.specs.declared.token.Token.{Token}
use Rattle.epl_tree.specs.declared.expression.Expr.{Expr}
use Rattle.epl_tree.specs.declared.types.TypeExpr.{TypeExpr}
use Rattle.primary_parser.specs.declared.part.Part.{Part}
use Rattle.primary_parser.specs.Reading.{type_at, expr_at}

-- It may be called at a depth, and reads parts of expressions there.
pub record Nests (depth : ℕ) (pre : Global → Bor (List Token) → ℕ → Part → ℕ → Type 0)
    (post : Global → Bor (List Token) → ℕ → Part → ℕ → Result (Option (Expr × ℕ)) AllocError → Type 0) : Type 0 where
  pub callable : (alloc : Global) (tokens : Bor (List Token)) (part : Part) (at : ℕ) → pre alloc tokens depth part at
  pub reads : (alloc : Global) (tokens : Bor (List Token)) (part : Part) (at : ℕ) (r : Result (Option (Expr × ℕ)) AllocError)
      → post alloc tokens depth part at r → IfOk r (λ x. x ≡ expr_at tokens.now depth part at)

-- It may be called at a depth, and reads types there.
pub record NestsTypes (depth : ℕ) (pre : Global → Bor (List Token) → ℕ → ℕ → Type 0)
    (post : Global → Bor (List Token) → ℕ → ℕ → Result (Option (TypeExpr × ℕ)) AllocError → Type 0) : Type 0 where
  pub callable : (alloc : Global) (tokens : Bor (List Token)) (at : ℕ) → pre alloc tokens depth at
  pub reads : (alloc : Global) (tokens : Bor (List Token)) (at : ℕ) (r : Result (Option (TypeExpr × ℕ)) AllocError)
      → post alloc tokens depth at r → IfOk r (λ x. x ≡ type_at tokens.now depth at)
