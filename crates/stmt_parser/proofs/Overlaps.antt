-- Declarations, assignments and calls may begin alike, and no tokens are two of them.
use Rattle.std.proofs.Common.{◌≡◌, ℕ, zero, suc, ◌+◌, ◌<◌, true, false, List, [], ◌∷◌, ◌++◌, Option, Some, None, refl, sym, ap, ◌∙◌, subst, ⊎_elim, inl, inr}
use Rattle.std.specs.Prelude.{◌⊎◌}
use Rattle.std.proofs.lemmas.Option.{same_Some}
use Rattle.grammar_forms.specs.Rule.{Row, Then, Many, Either, has, apart, contains}
use Rattle.grammar_forms.specs.Reader.{Reader}
use Rattle.grammar_forms.specs.Good.{Good}
use Rattle.grammar_forms.proofs.Good.{good_made, good_either}
use Rattle.grammar_forms.proofs.Sets.{apart_here, has_left, has_right, has_in}
use Rattle.grammar_forms.proofs.Joined.{good_behind, good_within}
use Rattle.epl_lexer.specs.declared.token.Token.{Token}
use Rattle.epl_lexer.specs.declared.token.Kind.TheVariants as kind
use Rattle.epl_tree.specs.declared.expression.Expr.{Expr}
use Rattle.epl_tree.specs.declared.expression.ExprNode.TheVariants as n
use Rattle.epl_tree.specs.declared.expression.Suffix.{Suffix}
use Rattle.epl_tree.specs.declared.expression.SuffixNode.TheVariants as step
use Rattle.epl_tree.specs.declared.statement.Place.{Place}
use Rattle.epl_tree.specs.declared.statement.Stmt.{Stmt}
use Rattle.epl_tree.specs.declared.statement.StmtNode.{StmtNode}
use Rattle.epl_tree.specs.declared.types.TypeExpr.{TypeExpr}
use Rattle.primary_parser.specs.declared.part.Part.{Part}
use Rattle.primary_parser.specs.declared.part.Part.TheVariants as part
use Rattle.primary_parser.specs.Tokens.{row_of, names, integers, strings, kind_at, spot_at, Takes}
use Rattle.primary_parser.specs.Words.{brace, parenthesis, bracket, closing_bracket, point, boolean_word, context_word, dictionary_word, integer_word, listener_word, sequence_word, string_word, false_word, new_word, true_word}
use Rattle.primary_parser.specs.Types.{IsType, IsTypeAt}
use Rattle.primary_parser.specs.Grammar as tree
use Rattle.primary_parser.specs.Grammar.{IsPrimary, IsSuffix, IsPostfix, IsExpr, IsExprAt, IsPostfixAlone}
use Rattle.primary_parser.specs.Reading.{expr_at}
use Rattle.expr_parser.proofs.Items.{inside, good_integer, good_quoted, good_name, good_placed}
use Rattle.expr_parser.proofs.Laws.{primary_starts, starts, postfix_ext, whole_ext, good_expr_alone, good_postfix_alone}
use Rattle.command_parser.specs.Words.{semicolon, assigns}
use Rattle.command_parser.specs.Commands.{IsStep, IsPlace, IsCall}
use Rattle.stmt_parser.specs.Statements.{IsDeclare, IsAssign}
use Rattle.command_parser.specs.Reading.{expr, step_node, step_at}

-- two readings that both end before what extends neither end at one place
one_end : {A : Type 0} {row : Row} {P : A → ℕ → ℕ → Type 0} {r : Reader A} {s e : List ℕ} → Good row P r s e → (a b : A) (at p q : ℕ) → P a at p → has row e p ≡ false → P b at q → has row e q ≡ false → p ≡ q
one_end g a b at p q i z j w =
    let c = g.covers a at p i in
    let d = g.covers b at q j in
    sym (c.stops z) ∙ (ap (λ x. x.1) (same_Some _ _ (sym c.found ∙ d.found)) ∙ d.stops w)

-- one token is not of two classes
clash : {C : Type 0} (row : Row) (xs ys : List ℕ) (i : ℕ) → apart xs ys ≡ true → has row xs i ≡ true → has row ys i ≡ true → C
clash row xs ys i a h k = let no = apart_here row xs ys i a h in let e = sym k ∙ no in absurd (distinct e) where
  distinct : true ≡ false → ⊥
  distinct e = cc

module _ (tokens : List Token) where
  pub good_expr_read : Good (row_of tokens) (IsExpr tokens) (expr tokens) starts whole_ext
  unfolding expr
  good_expr_read = good_expr_alone tokens

  pub good_step : Good (row_of tokens) (IsStep tokens) (step_at tokens) (point ++ bracket) []
  unfolding step_at step_node
  good_step =
      good_placed tokens tree.suffix
      (good_either (good_made step.Field (good_behind (good_name tokens) point (inside tokens point refl) refl))
      (good_made step.Index
      (good_within good_expr_read bracket closing_bracket (inside tokens bracket refl) (inside tokens closing_bracket refl) refl refl)) refl)

  -- ---- a place is a postfix too

  step_suffix : (x : Suffix) (at end : ℕ) → IsStep tokens x at end → IsSuffix tokens (IsExprAt tokens 200) x at end
  unfolding IsExpr
  step_suffix x at end h = (
    h.0,
    h.1,
    ⊎_elim
        (λ f.
        let b = f.2 in
        let t = b.2 in
        inl ((b.0.1, None), f.1 ∙ ap step.Field b.1, ((b.0.0, (b.0.1, None)), refl, (t.0, t.1, (end, t.2, refl)))))
        (λ i. inr i) h.2,
  )

  steps_suffixes : (xs : List Suffix) (at end : ℕ) → Many (IsStep tokens) xs at end → Many (IsSuffix tokens (IsExprAt tokens 200)) xs at end
  steps_suffixes [] at end h = h
  steps_suffixes (x ∷ xs) at end h = (h.0, step_suffix x at h.0 h.1, steps_suffixes xs h.0 end h.2)

  postfix_at : (depth : ℕ) (e : Expr) (at end : ℕ) → IsPostfix tokens (IsExprAt tokens depth) e at end → IsExprAt tokens (suc depth) part.Postfix e at end
  unfolding IsExprAt
  postfix_at depth e at end h = h

  at_postfix : (depth : ℕ) (e : Expr) (at end : ℕ) → IsExprAt tokens (suc depth) part.Postfix e at end → IsPostfix tokens (IsExprAt tokens depth) e at end
  unfolding IsExprAt
  at_postfix depth e at end h = h

  named : (text : List ℕ) (at end : ℕ) → Takes tokens kind.Name text at end → (D : Part → Expr → ℕ → ℕ → Type 0) → IsPrimary tokens D (tree.expr (spot_at tokens at) (n.Name text)) at end
  named text at end h D = (n.Name text, refl, inr (inl ((text, None), refl, (end, h, refl))))

  place_postfix : (x : Place) (at end : ℕ) → IsPlace tokens x at end → (e : Expr) × IsPostfixAlone tokens e at end
  unfolding IsPostfixAlone
  place_postfix x at end h =
      let t = h.2 in
      let first = tree.expr (spot_at tokens at) (n.Name h.0.0) in
      let e = tree.postfix_of (spot_at tokens at) (first, h.0.1) in
      (e, postfix_at 200 e at end ((first, h.0.1), refl, (t.0, named h.0.0 at t.0 t.1 (IsExprAt tokens 200), steps_suffixes h.0.1 t.0 end t.2)))

  -- ---- the token behind the first one

  -- a type that begins as a postfix may is one token, a name or `context`
  type_then : (depth : ℕ) (x : TypeExpr) (at m : ℕ) → IsTypeAt tokens depth x at m → has (row_of tokens) primary_starts at ≡ true → (m ≡ at + 1) × (((t : List ℕ) × (kind_at tokens at ≡ kind.Name t)) ⊎ (has (row_of tokens) context_word at ≡ true))
  unfolding IsTypeAt
  type_then zero x at m h p = absurd h
  type_then (suc depth) x at m h p =
      ⊎_elim
      (⊎_elim (λ k. off integer_word refl k.2.0)
      (⊎_elim (λ k. off boolean_word refl k.2.0)
      (⊎_elim (λ k. off string_word refl k.2.0) (⊎_elim (λ k. (k.2.1, inr k.2.0)) (λ k. off listener_word refl k.2.0)))))
      (⊎_elim (λ k. (k.2.1, inl (k.0, k.2.0)))
      (⊎_elim (λ k. off sequence_word refl k.2.2.1.0) (λ k. off dictionary_word refl k.2.2.1.0)))
      h.2
    where
      off : {C : Type 0} (set : List ℕ) → apart set primary_starts ≡ true → has (row_of tokens) set at ≡ true → C
      off set a k = clash (row_of tokens) set primary_starts at a k p

  -- behind `context` in a primary stands `(` or `.`
  context_then : (D : Part → Expr → ℕ → ℕ → Type 0) (x : Expr) (at end : ℕ) → IsPrimary tokens D x at end → has (row_of tokens) context_word at ≡ true → has (row_of tokens) (parenthesis ++ point) (at + 1) ≡ true
  context_then D x at end h is =
      ⊎_elim
      (⊎_elim (λ k. off integers refl ((good_integer tokens).begins k.0 at end k.2))
      (⊎_elim (λ k. off strings refl ((good_quoted tokens).begins k.0 at end k.2))
      (⊎_elim (λ k. off true_word refl k.2.0) (λ k. off false_word refl k.2.0))))
      (⊎_elim (λ k. off names refl ((good_name tokens).begins k.0.0 at k.2.0 k.2.1))
      (⊎_elim (⊎_elim (λ k. off bracket refl k.2.2.1.1.0) (λ k. off brace refl k.2.2.1.1.0))
      (⊎_elim (λ k. off new_word refl k.2.2.1.0)
      (⊎_elim (λ k. next k.2.0 k.2.1.1 (⊎_elim (λ k. has_left (row_of tokens) parenthesis point _ k.2.2.1.0) (λ k. has_right (row_of tokens) parenthesis point _ k.2.2.1.0) k.2.2)) (λ k. off parenthesis refl k.2.2.1.0)))))
      h.2
    where
      off : {C : Type 0} (set : List ℕ) → apart set context_word ≡ true → has (row_of tokens) set at ≡ true → C
      off set a k = clash (row_of tokens) set context_word at a k is

      next : (m : ℕ) → m ≡ at + 1 → has (row_of tokens) (parenthesis ++ point) m ≡ true → has (row_of tokens) (parenthesis ++ point) (at + 1) ≡ true
      next m e k = subst (λ i. has (row_of tokens) (parenthesis ++ point) i ≡ true) e k

  module _ (Inner : Stmt → ℕ → ℕ → Type 0) where
    -- behind the type of a declaration stands a name
    declare_then : (x : StmtNode) (at end : ℕ) → IsDeclare tokens Inner x at end → has (row_of tokens) primary_starts at ≡ true → (has (row_of tokens) names (at + 1) ≡ true) × (((t : List ℕ) × (kind_at tokens at ≡ kind.Name t)) ⊎ (has (row_of tokens) context_word at ≡ true))
    unfolding IsType
    declare_then x at end h p =
        let t = h.2.1 in
        let first = type_then 200 h.0.0.0 at t.0 t.1 p in
        let name = t.2 in
        (subst (λ i. has (row_of tokens) names i ≡ true) first.0 ((good_name tokens).begins name.0 t.0 h.2.0 name.2), first.1)

    -- an assignment begins with a name, and behind it stands `.`, `[` or `:=`
    assign_then : (x : StmtNode) (at end : ℕ) → IsAssign tokens Inner x at end → (has (row_of tokens) names at ≡ true) × (has (row_of tokens) (point ++ (bracket ++ assigns)) (at + 1) ≡ true)
    assign_then x at end h =
        let place = h.2.1 in
        let t = place.2 in
        let name = t.1 in
        ((good_name tokens).begins place.0.0 at t.0 name, subst (λ i. has (row_of tokens) (point ++ (bracket ++ assigns)) i ≡ true) name.1 (behind place.0.1 t.0 h.2.0 t.2 h.2.2.2.1.0))
      where
        behind : (xs : List Suffix) (m mid : ℕ) → Many (IsStep tokens) xs m mid → has (row_of tokens) assigns mid ≡ true → has (row_of tokens) (point ++ (bracket ++ assigns)) m ≡ true
        behind [] m mid i k = has_in (row_of tokens) assigns (point ++ (bracket ++ assigns)) m refl (subst (λ i. has (row_of tokens) assigns i ≡ true) i k)
        behind (x ∷ xs) m mid i k = has_in (row_of tokens) (point ++ bracket) (point ++ (bracket ++ assigns)) m refl (good_step.begins x m i.0 i.1)

    pub no_both : (a b : StmtNode) (at p i : ℕ) → IsAssign tokens Inner a at i → IsCall tokens b at p → ⊥
    no_both a b at p i h k =
        let place = h.2.1 in
        let first = place_postfix h.0.0 at h.2.0 place in
        let called = k.2.1.1.2 in
        let sign = h.2.2.2.1.0 in
        let stop = called.2.0 in
        let same = one_end (good_postfix_alone tokens) first.0 k.2.1.1.0.0 at h.2.0 called.0 first.1 (apart_here (row_of tokens) assigns postfix_ext h.2.0 refl sign) called.1 (apart_here (row_of tokens) semicolon postfix_ext called.0 refl stop) in
        clash (row_of tokens) assigns semicolon called.0 refl (subst (λ j. has (row_of tokens) assigns j ≡ true) same sign) stop

    declare_assign : (a b : StmtNode) (at p i : ℕ) → IsDeclare tokens Inner a at i → IsAssign tokens Inner b at p → ⊥
    declare_assign a b at p i h k =
        let second = assign_then b at p k in
        let first = declare_then a at i h (has_in (row_of tokens) names primary_starts at refl second.0) in
        clash (row_of tokens) names (point ++ (bracket ++ assigns)) (at + 1) refl first.0 second.1

    named_call : (text : List ℕ) (b : StmtNode) (at p : ℕ) → kind_at tokens at ≡ kind.Name text → has (row_of tokens) names (at + 1) ≡ true → IsCall tokens b at p → ⊥
    named_call text b at p is name k =
        let called = k.2.1.1.2 in
        let stop = called.2.0 in
        let first = place_postfix (record { spot = spot_at tokens at; name = text; steps = [] }) at (at + 1) ((text, []), refl, (at + 1, (is, refl), refl)) in
        let same = one_end (good_postfix_alone tokens) first.0 k.2.1.1.0.0 at (at + 1) called.0 first.1 (apart_here (row_of tokens) names postfix_ext (at + 1) refl name) called.1 (apart_here (row_of tokens) semicolon postfix_ext called.0 refl stop) in
        clash (row_of tokens) names semicolon called.0 refl (subst (λ j. has (row_of tokens) names j ≡ true) same name) stop

    context_call : (b : StmtNode) (at p : ℕ) → has (row_of tokens) context_word at ≡ true → has (row_of tokens) names (at + 1) ≡ true → IsCall tokens b at p → ⊥
    unfolding IsPostfixAlone
    context_call b at p is name k =
        let called = k.2.1.1.2 in
        let x = at_postfix 200 k.2.1.1.0.0 at called.0 called.1 in
        clash (row_of tokens) names (parenthesis ++ point) (at + 1) refl name (context_then (IsExprAt tokens 200) x.0.0 at x.2.0 x.2.1 is)

    declare_call : (a b : StmtNode) (at p i : ℕ) → IsDeclare tokens Inner a at i → IsCall tokens b at p → ⊥
    declare_call a b at p i h k =
        let called = k.2.1.1.2 in
        let first = declare_then a at i h ((good_postfix_alone tokens).begins k.2.1.1.0.0 at called.0 called.1) in
        ⊎_elim (λ t. named_call t.0 b at p t.1 first.0 k) (λ is. context_call b at p is first.0 k) first.1

    pub no_declared : (a b : StmtNode) (at p i : ℕ) → IsDeclare tokens Inner a at i → Either (IsAssign tokens Inner) (IsCall tokens) b at p → ⊥
    no_declared a b at p i h k = ⊎_elim (λ k. declare_assign a b at p i h k) (λ k. declare_call a b at p i h k) k
