-- Parts of event expressions, and which pattern each stands for.
use Rattle.std.specs.Prelude.{◌≡◌, ℕ, ◌+◌, map, Option, Some, None}
use Rattle.term_meaning.specs.Patterns.{Operand, Pattern, chained, operand_of}
use Rattle.term_meaning.specs.Patterns as pattern
use Rattle.event_terms.specs.declared.shown.Form.{Form}
use Rattle.event_terms.specs.declared.shown.Form.TheVariants as form
use Rattle.event_terms.specs.declared.shown.Part.{Part}

-- a part as an operand of the form around it
abbrev pub operand_in : Part → Operand
operand_in p = chained p.link (operand_of p.first.now) (map operand_of p.rest.now)

abbrev pub pattern_in : Part → Pattern
pattern_in p = (operand_in p).pattern

-- the pattern of an outermost form
abbrev pub form_pattern : Form → Pattern
form_pattern (form.Template t) = pattern.Template t.now
form_pattern (form.Wait d) = pattern.Wait d
form_pattern (form.All x) = pattern.All (pattern_in x)
form_pattern (form.Followed x y) = pattern.Followed (pattern_in x) (pattern_in y)
form_pattern (form.And x y) = pattern.And (pattern_in x) (pattern_in y)
form_pattern (form.AndNot x y) = pattern.AndNot (pattern_in x) (pattern_in y)
form_pattern (form.NotAnd x y) = pattern.NotAnd (pattern_in x) (pattern_in y)
form_pattern (form.Or x y) = pattern.Or (pattern_in x) (pattern_in y)
form_pattern (form.Xor x y) = pattern.Xor (pattern_in x) (pattern_in y)
form_pattern (form.Within x d) = pattern.Within (pattern_in x) d

-- the part's form, or none where its pattern is that of its first operand
abbrev pub IsWhere : Pattern → Part → Option Form → Type 0
IsWhere first p None = pattern_in p ≡ first
IsWhere first p (Some f) = form_pattern f ≡ pattern_in p

-- how many forms a pattern has
abbrev pub size_of : Pattern → ℕ
size_of (pattern.Template t) = 1
size_of (pattern.Wait d) = 1
size_of (pattern.All x) = 1 + size_of x
size_of (pattern.Followed x y) = 1 + (size_of x + size_of y)
size_of (pattern.And x y) = 1 + (size_of x + size_of y)
size_of (pattern.AndNot x y) = 1 + (size_of x + size_of y)
size_of (pattern.NotAnd x y) = 1 + (size_of x + size_of y)
size_of (pattern.Or x y) = 1 + (size_of x + size_of y)
size_of (pattern.Xor x y) = 1 + (size_of x + size_of y)
size_of (pattern.Within x d) = 1 + size_of x
