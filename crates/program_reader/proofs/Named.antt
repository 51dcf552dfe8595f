-- The names of event types in trees are spelled as names.
use Rattle.std.proofs.Common.{◌≡◌, ℕ, zero, suc, ◌+◌, ◌-◌, ◌<◌, ◌≤◌, List, [], ◌∷◌, ◌++◌, length, take, Bool, true, false, ◌||◌, ◌&&◌, ◌==◌, nat_le, le-leb, ◌⊎◌, inl, inr, refl, arith, eqb-true, IsTrue, get_or, slice_range, map, sym, subst}
use Rattle.std.specs.List.{AllByRecursion}
use Rattle.std.proofs.lemmas.Bool.{false≢true}
use Rattle.grammar_forms.specs.Rule.{contains, has}
use Rattle.evt_text.specs.Forms.{IsName, is_letter, is_digit}
use Rattle.epl_lexer.specs.declared.token.Kind.{Kind}
use Rattle.epl_lexer.specs.declared.token.Kind.TheVariants.{Name, Integer, Decimal, Quoted, Keyword, Sign, End}
use Rattle.epl_lexer.specs.declared.token.Token.{Token}
use Rattle.epl_lexer.specs.Bytes.{from_on, digits, letters, word_bytes}
use Rattle.epl_lexer.specs.Spelling.{Spells}
use Rattle.epl_lexer.specs.Tokens.{start_of, Lexes, end_token, AreTokens}
use Rattle.primary_parser.specs.Tokens.{kind_at}
use Rattle.epl_tree.specs.declared.name.Name.{Name as TreeName}
use Rattle.epl_tree.specs.declared.unit.Declaration.{Declaration}
use Rattle.epl_tree.specs.declared.unit.Declaration.TheVariants as declaration
use Rattle.epl_tree.specs.declared.unit.EventDecl.{EventDecl}
use Rattle.epl_tree.specs.declared.unit.Unit.{Unit as Tree}
use Rattle.grammar_forms.specs.Rule.{Many}
use Rattle.command_parser.specs.Commands.{IsName as IsNameForm}
use Rattle.decl_parser.specs.Units.{IsEventDecl, IsDeclaration, IsUnit}
use Rattle.type_table.specs.Kinds.{declarations_of}
use Rattle.epl_syntax.specs.Trees.{AreTrees}

-- what the tokens are
abbrev kinds_of : List Token → List Kind
kinds_of tokens = map (λ t. t.kind) tokens

or-true : (a b : Bool) → (a || b) ≡ true → (a ≡ true) ⊎ (b ≡ true)
or-true true b e = inl refl
or-true false b e = inr e

or-last : (a : Bool) → (a || true) ≡ true
or-last true = refl
or-last false = refl

-- a byte among consecutive ones lies between them
within-run : (c a n : ℕ) → contains c (from_on a n) ≡ true → (a ≤ c) × (c < a + n)
unfolding from_on
within-run c a zero e = absurd (false≢true e)
within-run c a (suc n) e = elim (or-true (a == c) (contains c (from_on (a + 1) n)) e) [
  | inl h ↦ let same : a ≡ c = eqb-true a c h in (omega arith, omega arith)
  | inr h ↦ let more = within-run c (a + 1) n h in (omega arith, omega arith)
]

in-either : (c : ℕ) (xs ys : List ℕ) → contains c (xs ++ ys) ≡ true → (contains c xs ≡ true) ⊎ (contains c ys ≡ true)
in-either c [] ys e = inr e
in-either c (x ∷ xs) ys e = elim (or-true (x == c) (contains c (xs ++ ys)) e) [
  | inl h ↦ inl (rw h refl)
  | inr h ↦ elim (in-either c xs ys h) [
    | inl i ↦ inl (rw i (or-last (x == c)))
    | inr i ↦ inr i
  ]
]

letter-is : (c : ℕ) → contains c letters ≡ true → is_letter c ≡ true
unfolding letters
letter-is c e = elim (or-true (95 == c) (contains c (from_on 65 26 ++ from_on 97 26)) e) [
  | inl h ↦ let same : 95 ≡ c = eqb-true 95 c h in rw (← same) refl
  | inr h ↦ elim (in-either c (from_on 65 26) (from_on 97 26) h) [
    | inl i ↦ let w = within-run c 65 26 i in rw (le-leb 65 c w.0, le-leb c 90 (omega arith)) refl
    | inr i ↦ let w = within-run c 97 26 i in rw (le-leb 97 c w.0, le-leb c 122 (omega arith), or-last (nat_le 65 c && nat_le c 90)) refl
  ]
]

word-is : (c : ℕ) → contains c word_bytes ≡ true → (is_letter c || is_digit c) ≡ true
unfolding word_bytes digits
word-is c e = elim (in-either c letters (from_on 48 10) e) [
  | inl h ↦ rw (letter-is c h) refl
  | inr h ↦ let w = within-run c 48 10 h in rw (le-leb 48 c w.0, le-leb c 57 (omega arith), or-last (is_letter c)) refl
]

words-of : (text : List ℕ) (n : ℕ) → n ≤ length text → ((i : ℕ) → i < n → contains (get_or text i 256) word_bytes ≡ true) → AllByRecursion (λ c. IsTrue (is_letter c || is_digit c)) (take n text)
words-of text zero le each = tt
words-of [] (suc n) le each = absurd (omega arith)
words-of (c ∷ text) (suc n) le each = (word-is c (each 0 (omega arith)), words-of text n (omega arith) (λ i lt. each (suc i) (omega arith)))

name-of : (text : List ℕ) (at end : ℕ) → at < end → end ≤ length text → contains (get_or text at 256) letters ≡ true
    → ((i : ℕ) → at ≤ i → i < end → contains (get_or text i 256) word_bytes ≡ true) → IsName (slice_range text at end)
name-of [] at end lt le first each = absurd (omega arith)
name-of (c ∷ text) at zero lt le first each = absurd (omega arith)
name-of (c ∷ text) zero (suc end) lt le first each =
    let whole : suc end - 0 ≡ suc end = omega arith in
    rw whole (letter-is c first, words-of text end (omega arith) (λ i below. each (suc i) (omega arith) (omega arith)))
name-of (c ∷ text) (suc at) (suc end) lt le first each =
    let shorter : suc end - suc at ≡ end - at = omega arith in
    rw shorter (name-of text at end (omega arith) (omega arith) first (λ i from below. each (suc i) (omega arith) (omega arith)))

-- what a kind says of its name
abbrev Named : Kind → Type 0
Named (Name v) = IsName v
Named (Integer v) = Unit {0}
Named (Decimal v) = Unit {0}
Named (Quoted v) = Unit {0}
Named (Keyword n) = Unit {0}
Named (Sign n) = Unit {0}
Named End = Unit {0}

named : (text : List ℕ) (k : Kind) (at end : ℕ) → Spells text k at end → Named k
unfolding has
named text (Name v) at end h = rw h.1 (name-of text at end h.0.1.some h.0.1.within h.0.0 h.0.1.each)
named text (Integer v) at end h = tt
named text (Decimal v) at end h = tt
named text (Quoted v) at end h = tt
named text (Keyword n) at end h = tt
named text (Sign n) at end h = tt
named text End at end h = tt

all-named : (text : List ℕ) (spanning : List Token) (at end : ℕ) → Lexes text spanning at end → AllByRecursion Named (kinds_of (spanning ++ end_token text ∷ []))
all-named text [] at end h = (tt, tt)
all-named text (t ∷ ts) at end h = (named text t.kind t.from t.to h.1.0.token.1, all-named text ts t.to end h.2)

-- each name among the tokens of a text
tokens-named : (text : List ℕ) (tokens : List Token) → AreTokens text tokens → AllByRecursion Named (kinds_of tokens)
unfolding AreTokens
tokens-named text tokens h = rw h.1 (all-named text h.0 (start_of text) (length text) h.2)

-- the kind at a place is named as it says
named_at : (tokens : List Token) → AllByRecursion Named (kinds_of tokens) → (at : ℕ) → Named (kind_at tokens at)
named_at [] all at = tt
named_at (t ∷ tokens) all zero = all.0
named_at (t ∷ tokens) all (suc at) = named_at tokens all.1 at

-- the name of an event type
abbrev pub IsNamed : Declaration → Type 0
IsNamed (declaration.Event e) = IsName e.name.text
IsNamed (declaration.Monitor m) = Unit {0}

module _ (tokens : List Token) (all : AllByRecursion Named (kinds_of tokens)) where
  name_named : (name : TreeName) (at end : ℕ) → IsNameForm tokens name at end → IsName name.text
  name_named name at end h =
      let there : Named (Name h.0) = subst Named h.2.0 (named_at tokens all at) in
      subst (λ (n : TreeName). IsName n.text) (sym h.1) there

  event_named : (e : EventDecl) (at end : ℕ) → IsEventDecl tokens e at end → IsName e.name.text
  event_named e at end h =
      let behind = h.2.1 in
      let name = name_named behind.0.1 behind.2.0 h.2.0 behind.2.2 in
      let same : h.0.0 ≡ behind.0.1 = behind.1 in
      subst (λ (d : EventDecl). IsName d.name.text) (sym h.1) (subst (λ (n : TreeName). IsName n.text) (sym same) name)

  declaration_named : (d : Declaration) (at end : ℕ) → IsDeclaration tokens d at end → IsNamed d
  declaration_named d at end (inl h) = subst IsNamed (sym h.1) (event_named h.0 at end h.2)
  declaration_named d at end (inr h) = subst IsNamed (sym h.1) tt

  declarations_named : (ds : List Declaration) (at end : ℕ) → Many (IsDeclaration tokens) ds at end → AllByRecursion IsNamed ds
  declarations_named [] at end h = tt
  declarations_named (d ∷ ds) at end h = (declaration_named d at h.0 h.1, declarations_named ds h.0 end h.2)

-- each event type of a tree has a name
unit_named : (text : List ℕ) (tokens : List Token) (unit : Tree) → AreTokens text tokens → IsUnit tokens unit → AllByRecursion IsNamed unit.declarations
unfolding IsUnit
unit_named text tokens unit lexed parsed = declarations_named tokens (tokens-named text tokens lexed) unit.declarations 0 parsed.0 parsed.1

all_behind : (xs ys : List Declaration) → AllByRecursion IsNamed xs → AllByRecursion IsNamed ys → AllByRecursion IsNamed (xs ++ ys)
all_behind [] ys h k = k
all_behind (x ∷ xs) ys h k = (h.0, all_behind xs ys h.1 k)

-- each event type of the trees of files has a name
pub units_named : (texts : List (List ℕ)) (trees : List Tree) → AreTrees texts trees → AllByRecursion IsNamed (declarations_of trees)
units_named [] [] k = tt
units_named [] (u ∷ us) k = absurd k
units_named (b ∷ bs) [] k = absurd k
units_named (b ∷ bs) (u ∷ us) k = all_behind u.declarations (declarations_of us) (unit_named b k.0.tokens u k.0.lexed k.0.parsed) (units_named bs us k.1)
