-- Event expressions with each form on two operands at most: chains grouped to the left, parentheses gone.
use Rattle.term_meaning.specs.Common.{ℕ, Bool, true, false, List, [], Option, Some, None, Term, Term-F, fold-Term, TemplateShape, Duration, Link}
use Rattle.std.specs.Prelude.{◌∷◌, if◌then◌else◌}
use Rattle.typed_program.specs.declared.term.Term.TheOpen as term
use Rattle.term_meaning.specs.declared.progress.Link.TheVariants as link

pub data Pattern : Type 0 where
  Template : (template : TemplateShape) → Pattern
  Wait : (duration : Duration) → Pattern
  All : (x : Pattern) → Pattern
  Followed : (x : Pattern) (y : Pattern) → Pattern
  And : (x : Pattern) (y : Pattern) → Pattern
  AndNot : (x : Pattern) (y : Pattern) → Pattern
  NotAnd : (x : Pattern) (y : Pattern) → Pattern
  Or : (x : Pattern) (y : Pattern) → Pattern
  Xor : (x : Pattern) (y : Pattern) → Pattern
  Within : (x : Pattern) (duration : Duration) → Pattern

-- an operand: whether it stands under a `not`
pub record Operand : Type 0 where
  pub negated : Bool
  pub pattern : Pattern

abbrev pub plain : Pattern → Operand
plain p = record { negated = false; pattern = p }

-- of two operands of an `and` at most one is a `not`
abbrev pub joined_and : Operand → Operand → Pattern
joined_and a b = if a.negated then NotAnd a.pattern b.pattern else (if b.negated then AndNot a.pattern b.pattern else And a.pattern b.pattern)

-- two operands, joined
unfoldable pub joined : Link → Operand → Operand → Pattern
joined link.Followed a b = Followed a.pattern b.pattern
joined link.Or a b = Or a.pattern b.pattern
joined link.Xor a b = Xor a.pattern b.pattern
joined link.And a b = joined_and a b

-- a chain groups to the left: what stands before an operand is its left side
abbrev pub chained : Link → Operand → List Operand → Operand
chained l first [] = first
chained l first (second ∷ rest) = chained l (plain (joined l first second)) rest

-- `(X) within(d)`, or `(X)`, which is X
abbrev pub grouped : Pattern → Option Duration → Pattern
grouped x None = x
grouped x (Some duration) = Within x duration

abbrev pub operand_step : Term-F Operand → Operand
operand_step (term.Followed first rest) = plain (chained link.Followed first rest).pattern
operand_step (term.Or first rest) = plain (chained link.Or first rest).pattern
operand_step (term.Xor first rest) = plain (chained link.Xor first rest).pattern
operand_step (term.And first rest) = plain (chained link.And first rest).pattern
operand_step (term.All x) = plain (All x.pattern)
operand_step (term.Not x) = record { negated = true; pattern = x.pattern }
operand_step (term.Group x duration) = plain (grouped x.pattern duration)
operand_step (term.Wait duration) = plain (Wait duration)
operand_step (term.Template template) = plain (Template template)

-- an event expression as an operand of the form around it
unfoldable pub operand_of : Term → Operand
operand_of = fold-Term Operand operand_step

-- an event expression by forms on two operands
abbrev pub pattern_of : Term → Pattern
pattern_of t = (operand_of t).pattern

-- the first operand; an expression that has none stands for it
unfoldable pub first_of : Pattern → Pattern
first_of (All x) = x
first_of (Followed x y) = x
first_of (And x y) = x
first_of (AndNot x y) = x
first_of (NotAnd x y) = x
first_of (Or x y) = x
first_of (Xor x y) = x
first_of (Within x duration) = x
first_of (Template template) = Template template
first_of (Wait duration) = Wait duration

-- the second operand; an expression that has none stands for it
unfoldable pub second_of : Pattern → Pattern
second_of (Followed x y) = y
second_of (And x y) = y
second_of (AndNot x y) = y
second_of (NotAnd x y) = y
second_of (Or x y) = y
second_of (Xor x y) = y
second_of (All x) = All x
second_of (Within x duration) = Within x duration
second_of (Template template) = Template template
second_of (Wait duration) = Wait duration

-- the place of the name that a template binds
unfoldable pub binds_of : Pattern → Option ℕ
binds_of (Template template) = template.binds
binds_of (Wait duration) = None
binds_of (All x) = None
binds_of (Followed x y) = None
binds_of (And x y) = None
binds_of (AndNot x y) = None
binds_of (NotAnd x y) = None
binds_of (Or x y) = None
binds_of (Xor x y) = None
binds_of (Within x duration) = None
