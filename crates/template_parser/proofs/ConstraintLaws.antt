-- Constraints are read just as the grammar says.
use Rattle.std.proofs.Common.{◌≡◌, ℕ, ◌+◌, Bool, true, false, List, [], ◌++◌, refl, subst, ⊎_elim, inl, inr}
use Rattle.grammar_forms.specs.Rule.{Either, Separated, has}
use Rattle.grammar_forms.specs.Reader.{or_else}
use Rattle.grammar_forms.specs.Good.{Good}
use Rattle.grammar_forms.proofs.Sets.{apart_here}
use Rattle.grammar_forms.proofs.Good.{good_made, good_then, good_either, good_in}
use Rattle.grammar_forms.proofs.First.{good_first}
use Rattle.grammar_forms.proofs.Joined.{good_behind, good_separated}
use Rattle.epl_lexer.specs.declared.token.Token.{Token}
use Rattle.epl_tree.specs.declared.expression.Comparison.TheVariants as comparison
use Rattle.epl_tree.specs.declared.event.ConstraintNode.{ConstraintNode}
use Rattle.epl_tree.specs.declared.event.ConstraintNode.TheVariants as c
use Rattle.epl_tree.specs.declared.event.Range.{Range}
use Rattle.primary_parser.specs.Tokens.{row_of, names}
use Rattle.primary_parser.specs.Words.{parenthesis, closing_parenthesis, bracket, closing_bracket, comma, colon, equals, less, at_most, greater, at_least, times}
use Rattle.primary_parser.specs.Grammar.{IsSumAlone}
use Rattle.expr_parser.proofs.Items.{inside, good_name, good_word, good_placed}
use Rattle.expr_parser.proofs.Laws.{sum_starts, sum_ext, good_sum_alone}
use Rattle.template_parser.specs.Words.{in_word}
use Rattle.template_parser.specs.Constraints.{constraint, low_of, high_of, range_of, IsOrder, IsTest, IsOpening, IsClosing, IsLow, IsHigh, IsRange, IsOrdered, IsNamedTest, IsNamedRange, IsRangeOrNamed, IsRangeHead, IsMark, IsNamedHead, IsHead, IsPlain, IsConstraint}
use Rattle.template_parser.specs.Reading.{sum_at, order, any_test, opening, closing, low, high, range, ordered, tested, named_test, named_range, range_or_named, sum_and_colon, range_head, mark, named_head, head, plain, constraint_node, constraint_at, constraint_list}
use Rattle.template_parser.proofs.Unless.{good_unless}

-- what orders
abbrev pub orders : List ℕ
orders = less ++ (at_most ++ (greater ++ at_least))

-- what may begin a constraint
abbrev pub constraint_starts : List ℕ
constraint_starts = times ++ (orders ++ sum_starts)

clash : {b : Bool} → b ≡ true → b ≡ false → ⊥
clash is isnt = cc

module _ (tokens : List Token) where
  pub good_sum : Good (row_of tokens) (IsSumAlone tokens) (sum_at tokens) sum_starts sum_ext
  unfolding sum_at
  good_sum = good_sum_alone tokens

  good_order : Good (row_of tokens) (IsOrder tokens) (order tokens) orders []
  unfolding order
  good_order =
      good_either (good_made (λ _. comparison.Less) (good_word tokens less refl))
      (good_either (good_made (λ _. comparison.LessEqual) (good_word tokens at_most refl))
      (good_either (good_made (λ _. comparison.Greater) (good_word tokens greater refl))
      (good_made (λ _. comparison.GreaterEqual) (good_word tokens at_least refl)) refl) refl) refl

  good_test : Good (row_of tokens) (IsTest tokens) (any_test tokens) (equals ++ orders) []
  unfolding any_test
  good_test = good_either (good_made (λ _. comparison.Equal) (good_word tokens equals refl)) good_order refl

  good_opening : Good (row_of tokens) (IsOpening tokens) (opening tokens) (bracket ++ parenthesis) []
  unfolding opening
  good_opening =
      good_either (good_made (λ _. true) (good_word tokens bracket refl))
      (good_made (λ _. false) (good_word tokens parenthesis refl)) refl

  good_closing : Good (row_of tokens) (IsClosing tokens) (closing tokens) (closing_bracket ++ closing_parenthesis) []
  unfolding closing
  good_closing =
      good_either (good_made (λ _. true) (good_word tokens closing_bracket refl))
      (good_made (λ _. false) (good_word tokens closing_parenthesis refl)) refl

  good_low : Good (row_of tokens) (IsLow tokens) (low tokens) (bracket ++ parenthesis) sum_ext
  unfolding low
  good_low = good_made low_of (good_then good_opening good_sum refl)

  good_high : Good (row_of tokens) (IsHigh tokens) (high tokens) sum_starts []
  unfolding high
  good_high = good_made high_of (good_then good_sum good_closing refl)

  good_range : Good (row_of tokens) (IsRange tokens) (range tokens) (bracket ++ parenthesis) []
  unfolding range
  good_range = good_made range_of (good_then good_low (good_behind good_high colon (inside tokens colon refl) refl) refl)

  good_ordered : Good (row_of tokens) (IsOrdered tokens) (ordered tokens) orders sum_ext
  unfolding ordered
  good_ordered = good_made (λ x. c.Compares x.0 x.1) (good_then good_order good_sum refl)

  good_named_test : Good (row_of tokens) (IsNamedTest tokens) (named_test tokens) names sum_ext
  unfolding named_test tested
  good_named_test =
      good_made (λ x. c.NamedCompares x.0 x.1.0 x.1.1) (good_then (good_name tokens) (good_then good_test good_sum refl) refl)

  good_named_range : Good (row_of tokens) (IsNamedRange tokens) (named_range tokens) names []
  unfolding named_range
  good_named_range =
      good_made (λ x. c.NamedLies x.0 x.1)
      (good_then (good_name tokens) (good_behind good_range in_word (inside tokens in_word refl) refl) refl)

  -- a test and `in` don't stand behind one name
  test_or_range : (a b : ConstraintNode) (at p i : ℕ) → IsNamedTest tokens a at i → IsNamedRange tokens b at p → ⊥
  test_or_range a b at p i h k =
      let tests = subst (λ n. has (row_of tokens) (equals ++ orders) n ≡ true) h.2.1.1 (good_test.begins _ h.2.0 h.2.2.0 h.2.2.1) in
      let ins = subst (λ n. has (row_of tokens) in_word n ≡ true) k.2.1.1 k.2.2.2.1.0 in
      clash ins (apart_here (row_of tokens) (equals ++ orders) in_word (at + 1) refl tests)

  good_named : Good (row_of tokens) (Either (IsNamedTest tokens) (IsNamedRange tokens)) (λ at. or_else (named_test tokens at) (named_range tokens at)) names sum_ext
  good_named =
      good_in names sum_ext
      (good_first good_named_test good_named_range [] (λ a b at p i h k. absurd (test_or_range a b at p i h k))) refl refl

  good_range_or_named : Good (row_of tokens) (IsRangeOrNamed tokens) (range_or_named tokens) (bracket ++ (parenthesis ++ names)) sum_ext
  unfolding range_or_named
  good_range_or_named =
      good_in (bracket ++ (parenthesis ++ names)) sum_ext (good_either (good_made c.Lies good_range) good_named refl) refl refl

  good_range_head : Good (row_of tokens) (IsRangeHead tokens) (range_head tokens) parenthesis []
  unfolding range_head sum_and_colon
  good_range_head =
      good_made (λ _. tt)
      (good_behind (good_then good_sum (good_word tokens colon refl) refl) parenthesis (inside tokens parenthesis refl) refl)

  good_mark : Good (row_of tokens) (IsMark tokens) (mark tokens) (equals ++ (orders ++ in_word)) []
  unfolding mark
  good_mark =
      good_in (equals ++ (orders ++ in_word)) []
      (good_either (good_made (λ _. tt) good_test) (good_word tokens in_word refl) refl) refl refl

  good_named_head : Good (row_of tokens) (IsNamedHead tokens) (named_head tokens) names []
  unfolding named_head
  good_named_head = good_made (λ _. tt) (good_then (good_name tokens) good_mark refl)

  good_head : Good (row_of tokens) (IsHead tokens) (head tokens) (bracket ++ (parenthesis ++ names)) []
  unfolding head
  good_head = good_either (good_word tokens bracket refl) (good_either good_range_head good_named_head refl) refl

  good_plain : Good (row_of tokens) (IsPlain tokens) (plain tokens) sum_starts sum_ext
  unfolding plain
  good_plain = good_made c.Equals (good_unless good_head good_sum)

  -- a range and a named constraint have a head
  head_of_range : (r : Range) (at i : ℕ) → IsRange tokens r at i → (stop : ℕ) × IsHead tokens tt at stop
  head_of_range r at i h =
      ⊎_elim
      (λ o. (h.2.1.2.0, inl o.2))
      (λ o. (h.2.2.2.0, inr (inl ((h.2.1.0.1, tt), refl, ((tt, (h.2.1.0.1, tt)), refl, (h.2.1.2.0, o.2, (h.2.0, h.2.1.2.2, h.2.2.2.1)))))))
      h.2.1.2.1

  head_of : (n : ConstraintNode) (at i : ℕ) → IsRangeOrNamed tokens n at i → (stop : ℕ) × IsHead tokens tt at stop
  head_of n at i (inl h) = head_of_range h.0 at i h.2
  head_of n at i (inr (inl h)) = (h.2.2.0, inr (inr ((h.0.0, tt), refl, (h.2.0, h.2.1, inl (h.0.1.0, refl, h.2.2.1)))))
  head_of n at i (inr (inr h)) = (h.2.2.2.0, inr (inr ((h.0.0, tt), refl, (h.2.0, h.2.1, inr h.2.2.2.1))))

  good_constraint : Good (row_of tokens) (IsConstraint tokens) (constraint_at tokens) constraint_starts sum_ext
  unfolding constraint_at constraint_node
  good_constraint =
      good_in constraint_starts sum_ext
      (good_placed tokens constraint
      (good_either (good_made (λ _. c.Any) (good_word tokens times refl))
      (good_either good_ordered
      (good_first good_range_or_named good_plain []
      (λ a b at p i h k. let o = head_of a at i h in absurd (k.2.0 tt o.0 o.1))) refl) refl))
      refl refl

  pub good_constraint_list : Good (row_of tokens) (Separated (row_of tokens) comma (IsConstraint tokens)) (constraint_list tokens) constraint_starts (sum_ext ++ comma)
  unfolding constraint_list
  good_constraint_list =
      good_in constraint_starts (sum_ext ++ comma)
      (good_separated good_constraint comma (inside tokens comma refl) refl refl) refl refl
