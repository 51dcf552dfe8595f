-- Tokens and trees are the only ones, a fault of tokens stands at one place, and so do the first file without a tree and its fault.
use Rattle.std.proofs.Common.{◌≡◌, ℕ, zero, suc, ◌+◌, ◌<◌, ◌≤◌, List, [], ◌∷◌, length, take, Option, Some, None, refl, sym, ap, ◌∙◌, subst, ⊎_elim, inl, inr, arith, slice_get}
use Rattle.std.proofs.lemmas.Bool.{cases_lt}
use Rattle.std.proofs.lemmas.Option.{none-some, same_Some}
use Rattle.grammar_forms.proofs.Longest.{reads_longest}
use Rattle.span_text.specs.declared.spot.Spot.{Spot}
use Rattle.epl_lexer.specs.declared.token.Token.{Token}
use Rattle.epl_lexer.specs.Tokens.{AreTokens, IsLexFault}
use Rattle.epl_lexer.proofs.Lexed.{all_told, fault_told, one_fault}
use Rattle.epl_tree.specs.declared.unit.Unit.{Unit as Tree}
use Rattle.primary_parser.specs.Tokens.{spot_at}
use Rattle.decl_parser.specs.declared.region.Region.{Region}
use Rattle.decl_parser.specs.declared.region.Region.TheVariants as region
use Rattle.decl_parser.specs.Units.{IsUnit}
use Rattle.decl_parser.specs.Pieces.{IsPiece, IsLongestPiece, Cut, Start, Next, IsFaultAt, IsFault}
use Rattle.decl_parser.specs.Declaring.{piece, onward, cut, unit_read}
use Rattle.decl_parser.proofs.UnitLaws.{good_piece}
use Rattle.decl_parser.proofs.Whole.{only, nowhere}
use Rattle.epl_syntax.specs.Trees.{IsTree, AreTrees, IsUnread, IsUnparsed, IsFirstWithout}
use Rattle.epl_syntax.proofs.Trees.{tree_there}

-- ---- the cut of tokens

module _ (tokens : List Token) where
  -- the longest piece is the one that is read
  piece_is : (here next : Region) (at end : ℕ) → IsLongestPiece tokens here next at end → piece tokens here at ≡ Some (next, end)
  piece_is here next at end p = by_turn (piece tokens here at) refl
    where
      by_turn : (o : Option (Region × ℕ)) → piece tokens here at ≡ o → piece tokens here at ≡ Some (next, end)
      by_turn None e = absurd ((reads_longest (good_piece tokens here)).nowhere at e next end p.is)
      by_turn (Some x) e =
          let l = reads_longest (good_piece tokens here) in
          let far = l.longest at x e next end p.is in
          let near = p.longest x.0 x.1 (l.tree at x e) in
          let same : end ≡ x.1 = omega arith in
          let region_same = l.only at x e next (subst (λ n. IsPiece tokens here next at n) same p.is) in
          e ∙ ap (λ n. Some (x.0, n)) (sym same) ∙ ap (λ (r : Region). Some (r, end)) (sym region_same)

  piece_none : (here : Region) (at : ℕ) → ((next : Region) (end : ℕ) → IsPiece tokens here next at end → ⊥) → piece tokens here at ≡ None
  piece_none here at nothing = by_turn (piece tokens here at) refl
    where
      by_turn : (o : Option (Region × ℕ)) → piece tokens here at ≡ o → piece tokens here at ≡ None
      by_turn None e = e
      by_turn (Some x) e = absurd (nothing x.0 x.1 ((reads_longest (good_piece tokens here)).tree at x e))

  -- the whole cut goes on from here
  record Ahead (here : Region) (at : ℕ) : Type 0 where
    turns : ℕ
    same : cut tokens (length tokens) region.Outside 0 ≡ cut tokens turns here at
    enough : length tokens ≤ turns + at

  onto : (here next : Region) (at end : ℕ) → IsLongestPiece tokens here next at end → (n : ℕ) → cut tokens (length tokens) region.Outside 0 ≡ cut tokens n here at → length tokens ≤ n + at → Ahead next end
  unfolding cut
  onto here next at end p zero e enough = let m = (good_piece tokens here).moves next at end p.is in absurd (omega arith)
  onto here next at end p (suc n) e enough =
      let m = (good_piece tokens here).moves next at end p.is in
      record { turns = n; same = e ∙ ap (λ o. onward o (here, at) (cut tokens n)) (piece_is here next at end p); enough = omega arith }

  ahead : {here : Region} {at : ℕ} → Cut tokens here at → Ahead here at
  ahead Start = record { turns = length tokens; same = refl; enough = omega arith }
  ahead (Next {here} {next} {at} {end} c p) = let a = ahead c in onto here next at end p a.turns a.same a.enough

  stays : (here : Region) (at : ℕ) → ((next : Region) (end : ℕ) → IsPiece tokens here next at end → ⊥) → (n : ℕ) → cut tokens n here at ≡ (here, at)
  unfolding cut
  stays here at nothing zero = refl
  stays here at nothing (suc n) = ap (λ o. onward o (here, at) (cut tokens n)) (piece_none here at nothing)

  comes : (at : ℕ) (f : IsFaultAt tokens at) → cut tokens (length tokens) region.Outside 0 ≡ (f.here, at)
  comes at f = let a = ahead f.cut in a.same ∙ stays f.here at f.nothing a.turns

  pub one_syntax_fault : (one other : Spot) → IsFault tokens one → IsFault tokens other → one ≡ other
  one_syntax_fault one other f g =
      f.is ∙ ap (λ (x : Region × ℕ). spot_at tokens x.1) (sym (comes f.place f.stands) ∙ comes g.place g.stands) ∙ sym g.is

  pub one_unit : (u v : Tree) → IsUnit tokens u → IsUnit tokens v → u ≡ v
  one_unit u v h k = by_turn (unit_read tokens) refl
    where
      by_turn : (o : Option Tree) → unit_read tokens ≡ o → u ≡ v
      by_turn None e = absurd (nowhere tokens u e h)
      by_turn (Some w) e = only tokens w u e h ∙ sym (only tokens w v e k)

-- ---- the tokens of a text

pub one_tokens : (text : List ℕ) (a b : List Token) → AreTokens text a → AreTokens text b → a ≡ b
unfolding AreTokens
one_tokens text a b k m = k.1 ∙ sym ((all_told text k.0 k.2).1 b m)

pub no_tokens : (text : List ℕ) (spot : Spot) → IsLexFault text spot → (tokens : List Token) → AreTokens text tokens → ⊥
no_tokens text spot f = (fault_told text f.spanning f.place spot f.lexed f.inside f.nothing.no_space f.nothing.no_token f.is).1

-- ---- the trees of files

pub one_tree : (bytes : List ℕ) (a b : Tree) → IsTree bytes a → IsTree bytes b → a ≡ b
one_tree bytes a b h k = one_unit k.tokens a b (subst (λ (ts : List Token). IsUnit ts a) (one_tokens bytes h.tokens k.tokens h.lexed k.lexed) h.parsed) k.parsed

pub one_trees : (texts : List (List ℕ)) (a b : List Tree) → AreTrees texts a → AreTrees texts b → a ≡ b
one_trees [] [] [] h k = refl
one_trees [] (t ∷ ts) b h k = absurd h
one_trees [] [] (u ∷ us) h k = absurd k
one_trees (x ∷ xs) [] b h k = absurd h
one_trees (x ∷ xs) (t ∷ ts) [] h k = absurd k
one_trees (x ∷ xs) (t ∷ ts) (u ∷ us) h k = λ i. one_tree x t u h.0 k.0 i ∷ one_trees xs ts us h.1 k.1 i

-- a file before others that have trees has one
pub tree_before : (texts : List (List ℕ)) (trees : List Tree) (i j : ℕ) (bytes : List ℕ) → i < j → AreTrees (take j texts) trees → slice_get texts i ≡ Some bytes → (tree : Tree) × IsTree bytes tree
tree_before [] trees i j bytes lt k at = absurd (none-some _ at)
tree_before (b ∷ bs) trees i zero bytes lt k at = absurd (omega arith)
tree_before (b ∷ bs) [] i (suc j) bytes lt k at = absurd k
tree_before (b ∷ bs) (t ∷ ts) zero (suc j) bytes lt k at = (t, subst (λ (x : List ℕ). IsTree x t) (same_Some _ _ at) k.0)
tree_before (b ∷ bs) (t ∷ ts) (suc i) (suc j) bytes lt k at = tree_before bs ts i j bytes (omega arith) k.1 at

-- ---- why bytes have no tree

pub one_unread : (bytes : List ℕ) (one other : Spot) → IsUnread bytes one → IsUnread bytes other → one ≡ other
one_unread bytes one other (inl h) (inl k) = one_fault bytes one other h.1 k.1
one_unread bytes one other (inl h) (inr k) = absurd (k.0 h.0)
one_unread bytes one other (inr h) (inl k) = absurd (h.0 k.0)
one_unread bytes one other (inr h) (inr k) = h.1 ∙ sym k.1

pub one_unparsed : (bytes : List ℕ) (one other : Spot) → IsUnparsed bytes one → IsUnparsed bytes other → one ≡ other
one_unparsed bytes one other f g =
    one_syntax_fault g.tokens one other (subst (λ (ts : List Token). IsFault ts one) (one_tokens bytes f.tokens g.tokens f.lexed g.lexed) f.fault) g.fault

-- bytes without tokens aren't parsed
pub unread_apart : (bytes : List ℕ) (one other : Spot) → IsUnread bytes one → IsUnparsed bytes other → ⊥
unread_apart bytes one other (inl h) g = no_tokens bytes one h.1 g.tokens g.lexed
unread_apart bytes one other (inr h) g = h.0 g.utf8

-- ---- the first file without a tree

module _ (texts : List (List ℕ)) where
  -- files that have trees have no file without
  pub none_without : (i : ℕ) (Says : List ℕ → Type 0) (trees : List Tree) → IsFirstWithout texts i Says → AreTrees texts trees → ⊥
  none_without i Says trees f k = let t = tree_there texts trees i f.bytes k f.there in f.none t.0 t.1

  not_before : (i j : ℕ) (Says Tells : List ℕ → Type 0) → IsFirstWithout texts i Says → IsFirstWithout texts j Tells → i < j → ⊥
  not_before i j Says Tells f g lt = let t = tree_before texts g.trees i j f.bytes lt g.before f.there in f.none t.0 t.1

  one_place : (i j : ℕ) (Says Tells : List ℕ → Type 0) → IsFirstWithout texts i Says → IsFirstWithout texts j Tells → i ≡ j
  one_place i j Says Tells f g =
      ⊎_elim (λ lt. absurd (not_before i j Says Tells f g lt)) (λ le. ⊎_elim (λ lt. absurd (not_before j i Tells Says g f lt)) (λ ge. omega arith) (cases_lt j i)) (cases_lt i j)

  same_bytes : (i j : ℕ) (Says Tells : List ℕ → Type 0) (f : IsFirstWithout texts i Says) (g : IsFirstWithout texts j Tells) → f.bytes ≡ g.bytes
  same_bytes i j Says Tells f g = same_Some _ _ (sym f.there ∙ ap (λ n. slice_get texts n) (one_place i j Says Tells f g) ∙ g.there)

  pub one_lex : (i j : ℕ) (one other : Spot) → IsFirstWithout texts i (λ bytes. IsUnread bytes one) → IsFirstWithout texts j (λ bytes. IsUnread bytes other) → (i ≡ j) × (one ≡ other)
  one_lex i j one other f g = (
    one_place i j (λ bytes. IsUnread bytes one) (λ bytes. IsUnread bytes other) f g,
    one_unread g.bytes one other (subst (λ (b : List ℕ). IsUnread b one) (same_bytes i j (λ bytes. IsUnread bytes one) (λ bytes. IsUnread bytes other) f g) f.says) g.says,
  )

  pub one_syntax : (i j : ℕ) (one other : Spot) → IsFirstWithout texts i (λ bytes. IsUnparsed bytes one) → IsFirstWithout texts j (λ bytes. IsUnparsed bytes other) → (i ≡ j) × (one ≡ other)
  one_syntax i j one other f g = (
    one_place i j (λ bytes. IsUnparsed bytes one) (λ bytes. IsUnparsed bytes other) f g,
    one_unparsed g.bytes one other (subst (λ (b : List ℕ). IsUnparsed b one) (same_bytes i j (λ bytes. IsUnparsed bytes one) (λ bytes. IsUnparsed bytes other) f g) f.says) g.says,
  )

  pub lex_apart : (i j : ℕ) (one other : Spot) → IsFirstWithout texts i (λ bytes. IsUnread bytes one) → IsFirstWithout texts j (λ bytes. IsUnparsed bytes other) → ⊥
  lex_apart i j one other f g =
      unread_apart g.bytes one other (subst (λ (b : List ℕ). IsUnread b one) (same_bytes i j (λ bytes. IsUnread bytes one) (λ bytes. IsUnparsed bytes other) f g) f.says) g.says
