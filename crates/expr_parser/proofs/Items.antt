-- A reader of one token, of a list that may be left out and of items behind a word reads just what its form says.
use Rattle.std.proofs.Common.{◌≡◌, ℕ, zero, suc, ◌+◌, ◌<◌, true, false, List, [], ◌∷◌, ◌++◌, length, Option, Some, None, refl, sym, ap, ◌∙◌, subst, arith}
use Rattle.std.proofs.lemmas.Option.{same_Some}
use Rattle.grammar_forms.specs.Rule.{contains, has, apart, IsOf, LiesInside, Then}
use Rattle.grammar_forms.specs.Reader.{Reader, made, and_then, item_of}
use Rattle.grammar_forms.specs.Good.{Good}
use Rattle.grammar_forms.proofs.Good.{good_made, good_then}
use Rattle.grammar_forms.proofs.Many.{good_and_many}
use Rattle.grammar_forms.proofs.Optional.{good_and_optional}
use Rattle.grammar_forms.proofs.Items.{good_token}
use Rattle.grammar_forms.proofs.Joined.{good_item, good_behind}
use Rattle.epl_lexer.specs.declared.token.Token.{Token}
use Rattle.epl_lexer.specs.declared.token.Kind.{Kind}
use Rattle.epl_lexer.specs.declared.token.Kind.TheVariants.{Name, Integer, Decimal, Quoted, Keyword, Sign, End}
use Rattle.span_text.specs.declared.spot.Spot.{Spot}
use Rattle.primary_parser.specs.Tokens.{kind_at, class_of, row_of, names, integers, decimals, strings, Takes, spot_at}
use Rattle.primary_parser.specs.Rules.{Placed, listed, Enclosed, Joined}
use Rattle.primary_parser.specs.Reader.{integer_by, decimal_by, quoted_by, name_by, integer, decimal, quoted, name, placed, enclosed, joined}

-- past the last token there is only the end
pub inside : (tokens : List Token) (set : List ℕ) → contains 14 set ≡ false → LiesInside (row_of tokens) set
unfolding has
inside tokens set a i h = by_token tokens i h where
  by_token : (tokens : List Token) (i : ℕ) → contains (class_of (kind_at tokens i)) set ≡ true → i < length tokens
  by_token [] i h = cc
  by_token (t ∷ ts) zero h = omega arith
  by_token (t ∷ ts) (suc i) h = let k = by_token ts i h in omega arith

-- ---- tokens with a text

integer_some : (k : Kind) (at : ℕ) (x : List ℕ × ℕ) → integer_by k at ≡ Some x → (k ≡ Integer x.0) × (x.1 ≡ at + 1)
integer_some (Integer t) at x h = (ap (λ y. Integer y.0) (same_Some _ _ h), ap (λ y. y.1) (sym (same_Some _ _ h)))
integer_some (Name t) at x h = cc
integer_some (Decimal t) at x h = cc
integer_some (Quoted t) at x h = cc
integer_some (Keyword n) at x h = cc
integer_some (Sign n) at x h = cc
integer_some End at x h = cc

decimal_some : (k : Kind) (at : ℕ) (x : List ℕ × ℕ) → decimal_by k at ≡ Some x → (k ≡ Decimal x.0) × (x.1 ≡ at + 1)
decimal_some (Decimal t) at x h = (ap (λ y. Decimal y.0) (same_Some _ _ h), ap (λ y. y.1) (sym (same_Some _ _ h)))
decimal_some (Name t) at x h = cc
decimal_some (Integer t) at x h = cc
decimal_some (Quoted t) at x h = cc
decimal_some (Keyword n) at x h = cc
decimal_some (Sign n) at x h = cc
decimal_some End at x h = cc

quoted_some : (k : Kind) (at : ℕ) (x : List ℕ × ℕ) → quoted_by k at ≡ Some x → (k ≡ Quoted x.0) × (x.1 ≡ at + 1)
quoted_some (Quoted t) at x h = (ap (λ y. Quoted y.0) (same_Some _ _ h), ap (λ y. y.1) (sym (same_Some _ _ h)))
quoted_some (Name t) at x h = cc
quoted_some (Integer t) at x h = cc
quoted_some (Decimal t) at x h = cc
quoted_some (Keyword n) at x h = cc
quoted_some (Sign n) at x h = cc
quoted_some End at x h = cc

name_some : (k : Kind) (at : ℕ) (x : List ℕ × ℕ) → name_by k at ≡ Some x → (k ≡ Name x.0) × (x.1 ≡ at + 1)
name_some (Name t) at x h = (ap (λ y. Name y.0) (same_Some _ _ h), ap (λ y. y.1) (sym (same_Some _ _ h)))
name_some (Integer t) at x h = cc
name_some (Decimal t) at x h = cc
name_some (Quoted t) at x h = cc
name_some (Keyword n) at x h = cc
name_some (Sign n) at x h = cc
name_some End at x h = cc

-- a token whose kind has the class of a set stands there
there : (tokens : List Token) (set : List ℕ) (at : ℕ) (k : Kind) → contains 14 set ≡ false → contains (class_of k) set ≡ true → kind_at tokens at ≡ k → (at < length tokens) × (has (row_of tokens) set at ≡ true)
unfolding has
there tokens set at k a b h =
    let is : contains (class_of (kind_at tokens at)) set ≡ true = ap (λ k. contains (class_of k) set) h ∙ b in
    (inside tokens set a at is, is)

module _ (tokens : List Token) where
  pub good_integer : Good (row_of tokens) (Takes tokens Integer) (integer tokens) integers []
  unfolding integer
  good_integer = good_token (row_of tokens) (integer tokens) integers (λ t at. kind_at tokens at ≡ Integer t)
      (λ at x h. integer_some (kind_at tokens at) at x h)
      (λ at t h. ap (λ k. integer_by k at) h)
      (λ at t h. there tokens integers at (Integer t) refl refl h)

  pub good_decimal : Good (row_of tokens) (Takes tokens Decimal) (decimal tokens) decimals []
  unfolding decimal
  good_decimal = good_token (row_of tokens) (decimal tokens) decimals (λ t at. kind_at tokens at ≡ Decimal t)
      (λ at x h. decimal_some (kind_at tokens at) at x h)
      (λ at t h. ap (λ k. decimal_by k at) h)
      (λ at t h. there tokens decimals at (Decimal t) refl refl h)

  pub good_quoted : Good (row_of tokens) (Takes tokens Quoted) (quoted tokens) strings []
  unfolding quoted
  good_quoted = good_token (row_of tokens) (quoted tokens) strings (λ t at. kind_at tokens at ≡ Quoted t)
      (λ at x h. quoted_some (kind_at tokens at) at x h)
      (λ at t h. ap (λ k. quoted_by k at) h)
      (λ at t h. there tokens strings at (Quoted t) refl refl h)

  pub good_name : Good (row_of tokens) (Takes tokens Name) (name tokens) names []
  unfolding name
  good_name = good_token (row_of tokens) (name tokens) names (λ t at. kind_at tokens at ≡ Name t)
      (λ at x h. name_some (kind_at tokens at) at x h)
      (λ at t h. ap (λ k. name_by k at) h)
      (λ at t h. there tokens names at (Name t) refl refl h)

  pub good_word : (set : List ℕ) → contains 14 set ≡ false → Good (row_of tokens) (IsOf (row_of tokens) set) (item_of (row_of tokens) set) set []
  good_word set a = good_item (row_of tokens) set (inside tokens set a)

  pub good_after : {A : Type 0} {P : A → ℕ → ℕ → Type 0} {r : Reader A} {s e : List ℕ} (set : List ℕ) → contains 14 set ≡ false → Good (row_of tokens) P r s e → apart s [] ≡ true → Good (row_of tokens) (Then (IsOf (row_of tokens) set) P) (λ at. and_then (item_of (row_of tokens) set at) r) set e
  good_after set a g b = good_then (good_word set a) g b

-- ---- with the spot

made_some : {A B : Type 0} (f : A → B) (o : Option (A × ℕ)) (x : B × ℕ) → made f o ≡ Some x → (y : A × ℕ) × (o ≡ Some y) × (x ≡ (f y.0, y.1))
made_some f None x h = cc
made_some f (Some y) x h = (y, refl, sym (same_Some _ _ h))

pub good_placed : {A B : Type 0} (tokens : List Token) (f : Spot → A → B) {P : A → ℕ → ℕ → Type 0} {r : Reader A} {s e : List ℕ} → Good (row_of tokens) P r s e → Good (row_of tokens) (Placed tokens f P) (λ at. placed tokens f at (r at)) s e
good_placed tokens f {P} {r} {s} {e} g = record {
  sound = λ at x h.
      let m = made_some (f (spot_at tokens at)) (r at) x h in
      (m.0.0, ap (λ y. y.0) m.2, subst (λ n. P m.0.0 at n) (ap (λ y. y.1) (sym m.2)) (g.sound at m.0 m.1));
  moves = λ b at end h. g.moves h.0 at end h.2;
  begins = λ b at end h. g.begins h.0 at end h.2;
  covers = λ b at p h.
      let c = g.covers h.0 at p h.2 in
      record {
        tree = f (spot_at tokens at) c.tree;
        end = c.end;
        found = ap (made (f (spot_at tokens at))) c.found;
        far = c.far;
        stops = c.stops;
        same = λ q. ap (f (spot_at tokens at)) (c.same q) ∙ sym h.1;
      };
}

-- ---- lists

module _ {A : Type 0} {P : A → ℕ → ℕ → Type 0} {r : Reader A} {s e : List ℕ} where
  pub good_joined : (tokens : List Token) (word : List ℕ) → contains 14 word ≡ false → Good (row_of tokens) P r s e → apart s [] ≡ true → apart word e ≡ true → Good (row_of tokens) (Joined (row_of tokens) word P) (joined (row_of tokens) word r) s (e ++ (e ++ word))
  unfolding joined
  good_joined tokens word a g b c = good_and_many g (good_behind g word (inside tokens word a) b) c c

pub good_enclosed : {A : Type 0} (tokens : List Token) {P : List A → ℕ → ℕ → Type 0} {r : Reader (List A)} {s e : List ℕ} (opening closing : List ℕ) → contains 14 opening ≡ false → contains 14 closing ≡ false → Good (row_of tokens) P r s e → apart s [] ≡ true → apart closing (e ++ s) ≡ true → Good (row_of tokens) (Enclosed (row_of tokens) opening closing P) (enclosed (row_of tokens) opening closing r) opening []
unfolding enclosed
good_enclosed tokens opening closing a b g c d =
    good_made (λ x. listed x.0.1) (good_then (good_and_optional (good_word tokens opening a) g c) (good_word tokens closing b) d)
