-- Readers of what stands before a sign, between braces and of levels read just what their forms say.
use Rattle.std.proofs.Common.{◌≡◌, ℕ, ◌+◌, Bool, true, false, cond, length, arith, ◌<◌, ◌≤◌, List, [], ◌∷◌, ◌++◌, Option, Some, None, refl, sym, ap, ◌∙◌, subst, ⊎_elim, inl, inr}
use Rattle.std.specs.Prelude.{bytes_eq, ◌||◌, ◌==◌, ◌⊎◌}
use Rattle.std.proofs.lemmas.Option.{same_Some}
use Rattle.std.proofs.lemmas.Slice.Eq.{bytes_eq-Decides}
use Rattle.grammar_forms.specs.Rule.{Row, contains, has, apart, IsOf, LiesInside, Made, Then, Many}
use Rattle.grammar_forms.specs.Reader.{Reader, made, and_then, and_many, item_of}
use Rattle.grammar_forms.specs.Good.{Good}
use Rattle.grammar_forms.proofs.Sets.{lacks}
use Rattle.grammar_forms.proofs.Good.{good_made, good_then}
use Rattle.grammar_forms.proofs.Many.{good_and_many}
use Rattle.grammar_forms.proofs.Items.{good_token}
use Rattle.grammar_forms.proofs.Joined.{good_item}
use Rattle.epl_lexer.specs.declared.token.Token.{Token}
use Rattle.epl_lexer.specs.declared.token.Kind.{Kind}
use Rattle.epl_lexer.specs.declared.token.Kind.TheVariants as kind
use Rattle.epl_tree.specs.declared.statement.Level.{Level}
use Rattle.epl_tree.specs.declared.statement.Level.TheVariants as level
use Rattle.primary_parser.specs.Tokens.{kind_at, row_of, names, Takes}
use Rattle.primary_parser.specs.Words.{brace, closing_brace}
use Rattle.primary_parser.specs.Reader.{name_by, name}
use Rattle.expr_parser.proofs.Items.{inside, good_word, good_name}
use Rattle.command_parser.specs.Words.{crit_letters, fatal_letters, error_letters, warn_letters, info_letters, debug_letters, trace_letters}
use Rattle.command_parser.specs.Rules.{Before, Braced, Unless, Unfollowed}
use Rattle.command_parser.specs.Reader.{before, braced, unless, unfollowed, level_of, with_end, level_by, level_at}
use Rattle.command_parser.specs.Commands.{letters_of, IsLevel}
use Rattle.command_parser.proofs.Sees.{item_there, item_missing}

module _ {A : Type 0} (tokens : List Token) {P : A → ℕ → ℕ → Type 0} {r : Reader A} {s e : List ℕ} where
  pub good_before : (set : List ℕ) → contains 14 set ≡ false → Good (row_of tokens) P r s e → apart set e ≡ true → Good (row_of tokens) (Before (row_of tokens) set P) (before (row_of tokens) set r) s []
  unfolding before
  good_before set a g b = good_made (λ x. x.0) (good_then g (good_word tokens set a) b)

  pub good_braced : Good (row_of tokens) P r s e → apart s [] ≡ true → apart s e ≡ true → apart closing_brace (e ++ s) ≡ true → Good (row_of tokens) (Braced (row_of tokens) P) (braced (row_of tokens) r) brace []
  unfolding braced
  good_braced g a b c =
      good_made (λ x. x.0.1) (good_then (good_and_many (good_word tokens brace refl) g a b) (good_word tokens closing_brace refl) c)

contains_neither : (c : ℕ) (xs ys : List ℕ) → contains c xs ≡ false → contains c ys ≡ false → contains c (xs ++ ys) ≡ false
contains_neither c [] ys h k = k
contains_neither c (x ∷ xs) ys h k = by_test (x == c) (λ h. contains_neither c xs ys h k) h where
  by_test : (b : Bool) → (contains c xs ≡ false → contains c (xs ++ ys) ≡ false) → (b || contains c xs) ≡ false → (b || contains c (xs ++ ys)) ≡ false
  by_test true rest h = cc
  by_test false rest h = rest h

neither : (row : Row) (set s : List ℕ) (at : ℕ) → has row set at ≡ false → has row s at ≡ false → has row (set ++ s) at ≡ false
unfolding has
neither row set s at h k = contains_neither (row.class at) set s h k

-- what was read does not begin with the class
unless_some : {A : Type 0} (m : Option (Unit {0} × ℕ)) (o : Option (A × ℕ)) (x : A × ℕ) → unless m o ≡ Some x → (m ≡ None) × (o ≡ Some x)
unless_some None o x h = (refl, h)
unless_some (Some y) o x h = cc

item_none : (row : Row) (set : List ℕ) (at : ℕ) → has row set at ≡ false → item_of row set at ≡ None
unfolding item_of
item_none row set at h = ap (λ b. cond b (Some (tt, at + 1)) None) h

pub good_unless : {A : Type 0} {row : Row} {P : A → ℕ → ℕ → Type 0} {r : Reader A} {e : List ℕ} (set s : List ℕ) → Good row P r (set ++ s) e → Good row (Unless row set P) (λ at. unless (item_of row set at) (r at)) s e
good_unless {A} {row} {P} {r} {e} set s g = record {
  sound = λ at x h. let m = unless_some (item_of row set at) (r at) x h in (item_missing row set at m.0, g.sound at x m.1);
  moves = λ x at end i. g.moves x at end i.1;
  begins = λ x at end i. from_right at (has row s at) refl i.0 (g.begins x at end i.1);
  covers = λ x at p i.
      let c = g.covers x at p i.1 in
      record {
        tree = c.tree;
        end = c.end;
        found = ap (λ m. unless m (r at)) (item_none row set at i.0) ∙ c.found;
        far = c.far;
        stops = c.stops;
        same = c.same;
      };
} where
  from_right : (at : ℕ) (b : Bool) → has row s at ≡ b → has row set at ≡ false → has row (set ++ s) at ≡ true → has row s at ≡ true
  from_right at true e h k = e
  from_right at false e h k = let isnt = neither row set s at h e in cc

-- what was read has no item of the class behind it
unfollowed_some : {A : Type 0} (q : Reader (Unit {0})) (o : Option (A × ℕ)) (x : A × ℕ) → unfollowed q o ≡ Some x → (o ≡ Some x) × (q x.1 ≡ None)
unfollowed_some q None x h = cc
unfollowed_some q (Some y) x h = let m = unless_some (q y.1) (Some y) x h in (m.1, subst (λ (z : _ × ℕ). q z.1 ≡ None) (same_Some _ _ m.1) m.0)

pub good_unfollowed : {A : Type 0} {row : Row} {P : A → ℕ → ℕ → Type 0} {r : Reader A} {s : List ℕ} (set : List ℕ) → Good row P r s [] → Good row (Unfollowed row set P) (λ at. unfollowed (item_of row set) (r at)) s []
good_unfollowed {A} {row} {P} {r} {s} set g = record {
  sound = λ at x h. let m = unfollowed_some (item_of row set) (r at) x h in (g.sound at x m.0, item_missing row set x.1 m.1);
  moves = λ x at end i. g.moves x at end i.0;
  begins = λ x at end i. g.begins x at end i.0;
  covers = λ x at p i.
      let c = g.covers x at p i.0 in
      let stop = c.stops (lacks row p) in
      record {
        tree = c.tree;
        end = c.end;
        found = ap (λ o. unfollowed (item_of row set) o) c.found
            ∙ ap (λ m. unless m (Some (c.tree, c.end))) (ap (item_of row set) stop ∙ item_none row set p i.1);
        far = c.far;
        stops = c.stops;
        same = c.same;
      };
}

-- ---- levels

with_end_some : (end : ℕ) (o : Option Level) (x : Level × ℕ) → with_end end o ≡ Some x → (o ≡ Some x.0) × (x.1 ≡ end)
with_end_some end None x h = cc
with_end_some end (Some l) x h = (ap (λ y. Some y.0) (same_Some _ _ h), ap (λ y. y.1) (sym (same_Some _ _ h)))

level_by_some : (o : Option (List ℕ × ℕ)) (x : Level × ℕ) → level_by o ≡ Some x → (y : List ℕ × ℕ) × (o ≡ Some y) × (level_of y.0 ≡ Some x.0) × (x.1 ≡ y.1)
level_by_some None x h = cc
level_by_some (Some y) x h = let m = with_end_some y.1 (level_of y.0) x h in (y, refl, m.0, m.1)

pick : (b : Bool) (k : Level) (rest : Option Level) (l : Level) → cond b (Some k) rest ≡ Some l → ((b ≡ true) × (k ≡ l)) ⊎ (rest ≡ Some l)
pick true k rest l h = inl (refl, same_Some _ _ h)
pick false k rest l h = inr h

-- a text with the letters of a level is that level, and no other is
level_letters : (text : List ℕ) (l : Level) → level_of text ≡ Some l → text ≡ letters_of l
unfolding level_of
level_letters text l h =
    ⊎_elim (is level.Crit) (λ h. ⊎_elim (is level.Fatal) (λ h. ⊎_elim (is level.Error) (λ h. ⊎_elim (is level.Warn) (λ h. ⊎_elim (is level.Info) (λ h. ⊎_elim (is level.Debug) (λ h. ⊎_elim (is level.Trace) (λ h. cc) (pick (bytes_eq text trace_letters) level.Trace _ l h)) (pick (bytes_eq text debug_letters) level.Debug _ l h)) (pick (bytes_eq text info_letters) level.Info _ l h)) (pick (bytes_eq text warn_letters) level.Warn _ l h)) (pick (bytes_eq text error_letters) level.Error _ l h)) (pick (bytes_eq text fatal_letters) level.Fatal _ l h)) (pick (bytes_eq text crit_letters) level.Crit _ l h)
  where
    is : (k : Level) → (bytes_eq text (letters_of k) ≡ true) × (k ≡ l) → text ≡ letters_of l
    is k x = (bytes_eq-Decides text (letters_of k)).0 x.0 ∙ ap letters_of x.1

letters_level : (l : Level) → level_of (letters_of l) ≡ Some l
unfolding level_of
letters_level level.Crit = refl
letters_level level.Fatal = refl
letters_level level.Error = refl
letters_level level.Warn = refl
letters_level level.Info = refl
letters_level level.Debug = refl
letters_level level.Trace = refl

level_answer : (tokens : List Token) (at : ℕ) (l : Level) → kind_at tokens at ≡ kind.Name (letters_of l) → level_by (name tokens at) ≡ Some (l, at + 1)
unfolding name
level_answer tokens at l h = ap (λ k. level_by (name_by k at)) h ∙ ap (with_end (at + 1)) (letters_level l)

pub good_level : (tokens : List Token) → Good (row_of tokens) (IsLevel tokens) (level_at tokens) names []
unfolding level_at
good_level tokens = good_token (row_of tokens) (level_at tokens) names (λ l at. kind_at tokens at ≡ kind.Name (letters_of l))
    (λ at x h.
    let m = level_by_some (name tokens at) x h in
    let t = (good_name tokens).sound at m.0 m.1 in
    (t.0 ∙ ap kind.Name (level_letters m.0.0 x.0 m.2), m.3 ∙ t.1))
    (λ at l h. level_answer tokens at l h)
    (λ at l h.
    let i : Takes tokens kind.Name (letters_of l) at (at + 1) = (h, refl) in
    (below at ((good_name tokens).moves (letters_of l) at (at + 1) i).1, (good_name tokens).begins (letters_of l) at (at + 1) i))
  where
    below : (at : ℕ) → at + 1 ≤ length tokens → at < length tokens
    below at h = omega arith
