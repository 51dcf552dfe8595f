-- Which pattern an event expression stands for, form by form, and where a chain is cut before its last operand.
use Rattle.std.specs.Prelude.{◌==◌}
use Rattle.std.proofs.Common.{◌≡◌, true, false, List, [], ◌∷◌, ◌++◌, length, map, Option, refl, sym, ap, ◌∙◌}
use Rattle.std.proofs.lemmas.Bool.{false≢true}
use Rattle.typed_program.specs.declared.term.Duration.{Duration}
use Rattle.typed_program.specs.declared.term.TemplateShape.{TemplateShape}
use Rattle.typed_program.specs.declared.term.Term.{Term, Term-F, roll-Term, map-Term, fold-roll-Term}
use Rattle.typed_program.specs.declared.term.Term.TheVariants as term
use Rattle.term_meaning.specs.declared.progress.Link.{Link}
use Rattle.term_meaning.specs.declared.progress.Link.TheVariants as link
use Rattle.term_meaning.specs.Patterns.{Operand, Pattern, chained, grouped, joined, operand_of, operand_step, pattern_of, plain}
use Rattle.term_meaning.specs.Patterns as pattern

rolled : {t : Term} (d : Term-F Term) → roll-Term d ≡ t → operand_of t ≡ operand_step (map-Term Term Operand operand_of d)
unfolding operand_of
rolled d is = ap operand_of (sym is) ∙ fold-roll-Term Operand operand_step d

pub operand-followed : (first : Term) (rest : List Term) → operand_of (term.Followed first rest) ≡ plain (chained link.Followed (operand_of first) (map operand_of rest)).pattern
operand-followed first rest = rolled _ (term.rolls-Followed first rest)

pub operand-or : (first : Term) (rest : List Term) → operand_of (term.Or first rest) ≡ plain (chained link.Or (operand_of first) (map operand_of rest)).pattern
operand-or first rest = rolled _ (term.rolls-Or first rest)

pub operand-xor : (first : Term) (rest : List Term) → operand_of (term.Xor first rest) ≡ plain (chained link.Xor (operand_of first) (map operand_of rest)).pattern
operand-xor first rest = rolled _ (term.rolls-Xor first rest)

pub operand-and : (first : Term) (rest : List Term) → operand_of (term.And first rest) ≡ plain (chained link.And (operand_of first) (map operand_of rest)).pattern
operand-and first rest = rolled _ (term.rolls-And first rest)

pub operand-all : (x : Term) → operand_of (term.All x) ≡ plain (pattern.All (operand_of x).pattern)
operand-all x = rolled _ (term.rolls-All x)

pub operand-not : (x : Term) → operand_of (term.Not x) ≡ record { negated = true; pattern = (operand_of x).pattern }
operand-not x = rolled _ (term.rolls-Not x)

pub operand-group : (x : Term) (duration : Option Duration) → operand_of (term.Group x duration) ≡ plain (grouped (operand_of x).pattern duration)
operand-group x duration = rolled _ (term.rolls-Group x duration)

pub operand-wait : (duration : Duration) → operand_of (term.Wait duration) ≡ plain (pattern.Wait duration)
operand-wait duration = rolled _ (term.rolls-Wait duration)

pub operand-template : (t : TemplateShape) → operand_of (term.Template t) ≡ plain (pattern.Template t)
operand-template t = rolled _ (term.rolls-Template t)

pub ruleset operands = (operand-followed, operand-or, operand-xor, operand-and, operand-all, operand-not, operand-group, operand-wait, operand-template)

-- ---- a chain and its last operand

pub chained_last : (l : Link) (first : Operand) (before : List Operand) (last : Operand) → chained l first (before ++ last ∷ []) ≡ plain (joined l (chained l first before) last)
chained_last l first [] last = refl
chained_last l first (second ∷ before) last = chained_last l (plain (joined l first second)) before last

map_last : (before : List Term) (last : Term) → map operand_of (before ++ last ∷ []) ≡ map operand_of before ++ operand_of last ∷ []
map_last [] last = refl
map_last (t ∷ before) last = ap (λ ts. operand_of t ∷ ts) (map_last before last)

-- the last operand of a chain is the second one of its outermost form
pub chain_last : (l : Link) (first : Term) (before : List Term) (last : Term)
    → (chained l (operand_of first) (map operand_of (before ++ last ∷ []))).pattern ≡ joined l (chained l (operand_of first) (map operand_of before)) (operand_of last)
chain_last l first before last = ap (λ ts. (chained l (operand_of first) ts).pattern) (map_last before last) ∙ ap (λ (o : Operand). o.pattern) (chained_last l (operand_of first) (map operand_of before) (operand_of last))

chained_plain : (l : Link) (p : Pattern) (rest : List Operand) → (chained l (plain p) rest).negated ≡ false
chained_plain l p [] = refl
chained_plain l p (second ∷ rest) = chained_plain l (joined l (plain p) second) rest

-- a chain of two operands and more doesn't stand under a `not`
pub never_negated : (l : Link) (first : Term) (rest : List Term) → (length rest == 0) ≡ false → (chained l (operand_of first) (map operand_of rest)).negated ≡ false
never_negated l first [] some = absurd (false≢true (sym some))
never_negated l first (second ∷ rest) some = chained_plain l (joined l (operand_of first) (operand_of second)) (map operand_of rest)
