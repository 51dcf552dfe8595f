-- Which bytes are in a set, and which stand at a place of a text.
use Rattle.std.proofs.Common.{◌≡◌, ℕ, zero, suc, ◌+◌, ◌<◌, ◌≤◌, false, List, [], ◌∷◌, length, get_or, refl, ap, ◌∙◌, arith, ⊎_elim}
use Rattle.std.specs.Prelude.{nat_lt, nat_le, ◌&&◌, ◌||◌}
use Rattle.std.proofs.lemmas.Bool.{cases_lt}
use Rattle.std.proofs.lemmas.Bool.Decides.{nat_tests}
use Rattle.grammar_forms.specs.Rule.{contains, has, LiesInside}
use Rattle.grammar_forms.proofs.Sets.{contains_append}
use Rattle.epl_lexer.specs.declared.bytes.Class.{Class}
use Rattle.epl_lexer.specs.declared.bytes.Class.TheVariants.{Blank, Letter, Digit, Word, Plain}
use Rattle.epl_lexer.specs.Classes.{set_of}
use Rattle.epl_lexer.specs.Bytes.{from_on, row_of, digits, letters, word_bytes, plain_bytes}

pub contains_range : (c a n : ℕ) → contains c (from_on a n) ≡ (nat_le a c && nat_lt c (a + n))
unfolding from_on
contains_range c a zero = grind (arith, nat_tests)
contains_range c a (suc n) = let rest = contains_range c (a + 1) n in grind (arith, nat_tests)

pub ruleset ranges = (contains_range, contains_append, nat_tests)

-- inside the text the class is the byte
pub same_byte : (text : List ℕ) (at : ℕ) → at < length text → get_or text at 256 ≡ get_or text at 0
same_byte [] at h = absurd (omega arith)
same_byte (b ∷ text) zero h = refl
same_byte (b ∷ text) (suc at) h = same_byte text at (omega arith)

pub has_here : (text set : List ℕ) (at : ℕ) → at < length text → has (row_of text) set at ≡ contains (get_or text at 0) set
unfolding has
has_here text set at h = ap (λ b. contains b set) (same_byte text at h)

-- past the end there is the class 256
past_end : (text : List ℕ) (i : ℕ) → length text ≤ i → get_or text i 256 ≡ 256
past_end [] i h = refl
past_end (b ∷ text) zero h = absurd (omega arith)
past_end (b ∷ text) (suc i) h = past_end text i (omega arith)

pub has_not : (text set : List ℕ) (at : ℕ) → length text ≤ at → contains 256 set ≡ false → has (row_of text) set at ≡ false
unfolding has
has_not text set at h lacks = ap (λ c. contains c set) (past_end text at h) ∙ lacks

pub lies_inside : (text set : List ℕ) → contains 256 set ≡ false → LiesInside (row_of text) set
lies_inside text set lacks i h =
    ⊎_elim (λ lt. lt) (λ le. let isnt = has_not text set i le lacks in absurd (cc)) (cases_lt i (length text))

pub class_inside : (class : Class) → contains 256 (set_of class) ≡ false
unfolding digits letters word_bytes plain_bytes from_on
class_inside Blank = refl
class_inside Letter = refl
class_inside Digit = refl
class_inside Word = refl
class_inside Plain = refl

pub class_not : (text : List ℕ) (class : Class) (at : ℕ) → length text ≤ at → has (row_of text) (set_of class) at ≡ false
class_not text class at h = has_not text (set_of class) at h (class_inside class)

pub ruleset places = (has_here, has_not, class_not, nat_tests)

pub has_either : (text : List ℕ) (a b i : ℕ) → has (row_of text) (a ∷ b ∷ []) i ≡ (has (row_of text) (a ∷ []) i || has (row_of text) (b ∷ []) i)
unfolding has
has_either text a b i = contains_append (get_or text i 256) (a ∷ []) (b ∷ [])

pub ruleset pairs = (has_either)
