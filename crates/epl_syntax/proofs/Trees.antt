-- The trees of files, one by one.
use Rattle.std.proofs.Common.{IsErrAnd, get_or, ◌≡◌, ℕ, zero, suc, ◌+◌, ◌≤◌, ◌<◌, List, [], ◌∷◌, ◌++◌, length, take, Some, Result, Ok, Err, refl, sym, ◌∙◌, ap, subst, arith, slice_get}
use Rattle.std.proofs.lemmas.Option.{none-some, same_Some, slice_get_read}
use Rattle.epl_lexer.specs.declared.token.Token.{Token}
use Rattle.epl_tree.specs.declared.unit.Unit.{Unit as Tree}
use Rattle.decl_parser.specs.Units.{IsUnit}
use Rattle.epl_syntax.specs.declared.fault.SyntaxFault.{SyntaxFault}
use Rattle.epl_syntax.specs.declared.fault.SyntaxFault.TheVariants.{Lex, Syntax, Memory}
use Rattle.epl_syntax.specs.Trees.{IsTree, AreTrees, IsUnread, IsUnparsed, IsFirstWithout, TokensTold, ParseTold, TreeTold, HasNoTree, AreOnlyTrees, HaveNoTrees, TreesTold}

-- ---- one file

pub tokens_refused : (place : ℕ) (bytes : List ℕ) (why : SyntaxFault) → TokensTold place bytes (Err why) → TreeTold place bytes (Err why)
tokens_refused place bytes (Lex file spot) t = (t.0, t.1, λ other k. t.2 k.utf8 k.tokens k.lexed)
tokens_refused place bytes (Syntax file spot) t = absurd t
tokens_refused place bytes Memory t = tt

module _ (place : ℕ) (bytes : List ℕ) (tokens : List Token) (read : TokensTold place bytes (Ok tokens)) where
  unit_at : (tree : Tree) → IsTree bytes tree → IsUnit tokens tree
  unit_at tree k = subst (λ (ts : List Token). IsUnit ts tree) (read.2 k.tokens k.lexed) k.parsed

  pub tree_told : (r : Result Tree SyntaxFault) → ParseTold place tokens r → TreeTold place bytes r
  tree_told (Ok tree) t = (record { utf8 = read.0; tokens = tokens; lexed = read.1; parsed = t.0 }, λ other k. t.1 other (unit_at other k))
  tree_told (Err (Lex file spot)) t = absurd t
  tree_told (Err (Syntax file spot)) t = (t.0, record { utf8 = read.0; tokens = tokens; lexed = read.1; fault = t.1 }, λ other k. t.2 other (unit_at other k))
  tree_told (Err Memory) t = tt

-- ---- several files

pub no_trees : AreOnlyTrees [] []
no_trees = (tt, go)
  where
    go : (others : List Tree) → AreTrees [] others → others ≡ []
    go [] k = refl
    go (t ∷ ts) k = absurd k

-- as many trees as files
pub trees_length : (texts : List (List ℕ)) (trees : List Tree) → AreTrees texts trees → length trees ≡ length texts
trees_length [] [] k = refl
trees_length [] (t ∷ ts) k = absurd k
trees_length (b ∷ bs) [] k = absurd k
trees_length (b ∷ bs) (t ∷ ts) k = ap suc (trees_length bs ts k.1)

trees_more : (texts : List (List ℕ)) (trees : List Tree) (bytes : List ℕ) (tree : Tree) → AreTrees texts trees → IsTree bytes tree → AreTrees (texts ++ bytes ∷ []) (trees ++ tree ∷ [])
trees_more [] [] bytes tree k is = (is, tt)
trees_more [] (t ∷ ts) bytes tree k is = absurd k
trees_more (b ∷ bs) [] bytes tree k is = absurd k
trees_more (b ∷ bs) (t ∷ ts) bytes tree k is = (k.0, trees_more bs ts bytes tree k.1 is)

-- the trees of files with one more
record Parted (texts : List (List ℕ)) (bytes : List ℕ) (others : List Tree) : Type 0 where
  front : List Tree
  last : Tree
  are : AreTrees texts front
  is : IsTree bytes last
  joined : others ≡ front ++ last ∷ []

trees_parted : (texts : List (List ℕ)) (bytes : List ℕ) (others : List Tree) → AreTrees (texts ++ bytes ∷ []) others → Parted texts bytes others
trees_parted [] bytes [] k = absurd k
trees_parted [] bytes (t ∷ []) k = record { front = []; last = t; are = tt; is = k.0; joined = refl }
trees_parted [] bytes (t ∷ u ∷ ts) k = absurd k.1
trees_parted (b ∷ bs) bytes [] k = absurd k
trees_parted (b ∷ bs) bytes (t ∷ ts) k =
    let p = trees_parted bs bytes ts k.1 in
    record { front = t ∷ p.front; last = p.last; are = (k.0, p.are); is = p.is; joined = ap (λ (us : List Tree). t ∷ us) p.joined }

only_more : (texts : List (List ℕ)) (trees : List Tree) (bytes : List ℕ) (tree : Tree) (place : ℕ) → AreOnlyTrees texts trees → TreeTold place bytes (Ok tree) → AreOnlyTrees (texts ++ bytes ∷ []) (trees ++ tree ∷ [])
only_more texts trees bytes tree place k t = (trees_more texts trees bytes tree k.0 t.0, λ others o. go others (trees_parted texts bytes others o))
  where
    go : (others : List Tree) → Parted texts bytes others → others ≡ trees ++ tree ∷ []
    go others p = p.joined ∙ ap (λ (us : List Tree). us ++ p.last ∷ []) (k.1 p.front p.are) ∙ ap (λ (u : Tree). trees ++ u ∷ []) (t.1 p.last p.is)

take_more : (texts : List (List ℕ)) (place : ℕ) (bytes : List ℕ) → slice_get texts place ≡ Some bytes → take (suc place) texts ≡ take place texts ++ bytes ∷ []
take_more [] place bytes at = absurd (none-some _ at)
take_more (b ∷ bs) zero bytes at = ap (λ (x : List ℕ). x ∷ []) (same_Some _ _ at)
take_more (b ∷ bs) (suc place) bytes at = ap (λ (xs : List (List ℕ)). b ∷ xs) (take_more bs place bytes at)

-- each of files with trees has one
pub tree_there : (texts : List (List ℕ)) (trees : List Tree) (place : ℕ) (bytes : List ℕ) → AreTrees texts trees → slice_get texts place ≡ Some bytes → (tree : Tree) × IsTree bytes tree
tree_there [] trees place bytes k at = absurd (none-some _ at)
tree_there (b ∷ bs) [] place bytes k at = absurd k
tree_there (b ∷ bs) (t ∷ ts) zero bytes k at = (t, subst (λ (x : List ℕ). IsTree x t) (same_Some _ _ at) k.0)
tree_there (b ∷ bs) (t ∷ ts) (suc place) bytes k at = tree_there bs ts place bytes k.1 at

-- ---- the loop over files

-- a file that is read is there
pub file_there : (texts : List (List ℕ)) (place : ℕ) (bytes : List ℕ) → place < length texts → bytes ≡ get_or texts place bytes → slice_get texts place ≡ Some bytes
file_there texts place bytes lt read = slice_get_read texts (length texts) place bytes refl lt read

module _ (texts : List (List ℕ)) (place : ℕ) (bytes : List ℕ) (at : slice_get texts place ≡ Some bytes) (trees : List Tree) (before : AreOnlyTrees (take place texts) trees) where
  pub files_step : (tree : Tree) → TreeTold place bytes (Ok tree) → AreOnlyTrees (take (place + 1) texts) (trees ++ tree ∷ [])
  files_step tree t =
      let next : suc place ≡ place + 1 = omega arith in
      subst (λ n. AreOnlyTrees (take n texts) (trees ++ tree ∷ [])) next
      (subst (λ (ts : List (List ℕ)). AreOnlyTrees ts (trees ++ tree ∷ [])) (sym (take_more texts place bytes at)) (only_more (take place texts) trees bytes tree place before t))

  first_without : (Says : List ℕ → Type 0) → HasNoTree bytes → Says bytes → IsFirstWithout texts place Says
  first_without Says none says = record { bytes = bytes; there = at; trees = trees; before = before.0; none = none; says = says }

  none_left : HasNoTree bytes → HaveNoTrees texts
  none_left none others k = let t = tree_there texts others place bytes k at in none t.0 t.1

  pub files_stop : (why : SyntaxFault) → TreeTold place bytes (Err why) → TreesTold texts (Err why)
  files_stop (Lex file spot) t = (subst (λ n. IsFirstWithout texts n (λ b. IsUnread b spot)) (sym t.0) (first_without (λ b. IsUnread b spot) t.2 t.1), none_left t.2)
  files_stop (Syntax file spot) t = (subst (λ n. IsFirstWithout texts n (λ b. IsUnparsed b spot)) (sym t.0) (first_without (λ b. IsUnparsed b spot) t.2 t.1), none_left t.2)
  files_stop Memory t = tt

pub trees_err : (texts : List (List ℕ)) (e : SyntaxFault) (r : Result (List Tree) SyntaxFault) → IsErrAnd r (λ x. x ≡ e) → TreesTold texts (Err e) → TreesTold texts r
trees_err texts e (Ok x) h g = absurd h
trees_err texts e (Err x) h g = subst (λ y. TreesTold texts (Err y)) (sym h) g

take_all : (texts : List (List ℕ)) (n : ℕ) → length texts ≤ n → take n texts ≡ texts
take_all [] zero le = refl
take_all [] (suc n) le = refl
take_all (b ∷ bs) zero le = absurd (omega arith)
take_all (b ∷ bs) (suc n) le = ap (λ (xs : List (List ℕ)). b ∷ xs) (take_all bs n (omega arith))

pub files_end : (texts : List (List ℕ)) (n : ℕ) (trees : List Tree) → length texts ≤ n → AreOnlyTrees (take n texts) trees → AreOnlyTrees texts trees
files_end texts n trees le k = subst (λ (ts : List (List ℕ)). AreOnlyTrees ts trees) (take_all texts n le) k

pub few_trees : (texts : List (List ℕ)) (n : ℕ) (trees : List Tree) → length texts ≤ n → AreOnlyTrees (take n texts) trees → length texts ≤ 64 → length trees ≤ 64
few_trees texts n trees le k few = let same = trees_length texts trees (files_end texts n trees le k).0 in omega arith
