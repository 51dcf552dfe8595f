-- A function value that reads what is nested one deeper.
use Rattle.std.specs.Prelude.{◌≡◌, ℕ, List, Option, Result, IfOk}
use Rattle.std.specs.Borrow.{Bor}
use Rattle.std.specs.declared.alloc.Global.{Global}
use Rattle.std.specs.declared.alloc.AllocError.{AllocError}
use Rattle.epl_lexer.specs.declared.token.Token.{Token}
use Rattle.epl_tree.specs.declared.event.EventExpr.{EventExpr}
use Rattle.event_parser.specs.declared.part.EventPart.{EventPart}
use Rattle.event_parser.specs.Reading.{event_at}

-- It may be called at a depth, and reads parts of event expressions there.
pub record NestsEvents (depth : ℕ) (pre : Global → Bor (List Token) → ℕ → EventPart → ℕ → Type 0)
    (post : Global → Bor (List Token) → ℕ → EventPart → ℕ → Result (Option (EventExpr × ℕ)) AllocError → Type 0) : Type 0 where
  pub callable : (alloc : Global) (tokens : Bor (List Token)) (part : EventPart) (at : ℕ) → pre alloc tokens depth part at
  pub reads : (alloc : Global) (tokens : Bor (List Token)) (part : EventPart) (at : ℕ) (r : Result (Option (EventExpr × ℕ)) AllocError)
      → post alloc tokens depth part at r → IfOk r (λ x. x ≡ event_at tokens.now depth part at)
