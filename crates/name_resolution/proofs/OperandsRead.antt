-- What is evaluated at an `on`, durations and operands.
use Rattle.std.proofs.Common.{◌≡◌, ℕ, ◌+◌, ◌-◌, ◌*◌, ◌==◌, ◌<◌, ◌≤◌, pos, nat_le, Bool, true, false, ◌&&◌, not, if◌then◌else◌, List, [], ◌∷◌, ◌++◌, map, length, take, drop, slice_get, Option, Some, None, refl, subst, sym, ap, ◌∙◌, arith, append_assoc}
use Rattle.std.specs.Option.{option_map}
use Rattle.std.proofs.lemmas.Bool.{and_parts, or_left}
use Rattle.std.proofs.lemmas.Slice.Eq.{bytes_eq-Decides}
use Rattle.std.proofs.lemmas.Bool.Decides.{nat_tests}
use Rattle.std.proofs.lemmas.List.{length-append, append-nil}
use Rattle.std.specs.List.{list_all, position}
use Rattle.span_text.specs.declared.spot.Spot.{Spot}
use Rattle.epl_values.specs.declared.shape.Shape.{Shape}
use Rattle.epl_values.specs.declared.shape.Shape.TheVariants as shape
use Rattle.epl_tree.specs.declared.event.Duration.{Duration}
use Rattle.epl_tree.specs.declared.event.DurationNode.{DurationNode}
use Rattle.epl_tree.specs.declared.event.DurationNode.TheVariants as duration
use Rattle.epl_tree.specs.declared.expression.Expr.{Expr, out-Expr, fold_out-Expr}
use Rattle.epl_tree.specs.declared.expression.ExprNode.{ExprNode, ExprNode-F, map-ExprNode, fold-ExprNode, fold_out-ExprNode}
use Rattle.epl_tree.specs.declared.expression.Entry.{Entry}
use Rattle.epl_tree.specs.declared.expression.Suffix.{Suffix}
use Rattle.epl_tree.specs.declared.expression.SuffixNode.{SuffixNode, fold-SuffixNode}
use Rattle.epl_tree.specs.declared.expression.ExprNode.TheOpen as tree
use Rattle.epl_tree.specs.declared.expression.Link.{Link, out-Link}
use Rattle.epl_tree.specs.declared.expression.Operator.{Operator}
use Rattle.epl_tree.specs.declared.expression.Operator.TheVariants as operator
use Rattle.typed_program.specs.declared.expression.TypedEntry.{TypedEntry}
use Rattle.typed_program.specs.declared.expression.TypedExpr.{TypedExpr, TypedExpr-F, out-roll-TypedExpr}
use Rattle.typed_program.specs.declared.expression.TypedLink.{TypedLink, out-TypedLink}
use Rattle.typed_program.specs.declared.expression.TypedNode.{TypedNode, out-TypedNode}
use Rattle.typed_program.specs.declared.expression.TypedNode.TheOpen as typed
use Rattle.typed_program.specs.declared.expression.TypedNode.TheVariants as made
use Rattle.typed_program.specs.declared.expression.TypedSuffix.{TypedSuffix, out-TypedSuffix}
use Rattle.typed_program.specs.declared.statement.Variable.TheVariants as var
use Rattle.type_table.specs.declared.scope.Seen.{Seen}
use Rattle.type_table.specs.declared.scope.SeenKind.{SeenKind}
use Rattle.type_table.specs.declared.scope.SeenKind.TheVariants as kind
use Rattle.expr_rules.specs.Names.{seen}
use Rattle.typed_program.specs.declared.expression.TypedSuffixNode.{TypedSuffixNode}
use Rattle.typed_program.specs.declared.term.Operand.{Operand}
use Rattle.typed_program.specs.declared.term.Operand.TheVariants as operand
use Rattle.type_table.specs.declared.scope.Scope.{Scope}
use Rattle.type_table.specs.declared.table.Table.{Table}
use Rattle.type_table.specs.Found.{told}
use Rattle.expr_check.specs.Expressions.{part_of, typed_of}
use Rattle.typed_program.specs.declared.term.Duration.{Duration as Timed}
use Rattle.typed_program.specs.Terms.{is_tenths}
use Rattle.listener_check.specs.declared.sofar.Sofar.{Sofar}
use Rattle.listener_check.specs.declared.operand.Reached.{Reached}
use Rattle.listener_check.specs.declared.value.Naming.{Naming}
use Rattle.listener_check.specs.declared.value.Naming.TheVariants as naming
use Rattle.listener_check.specs.Bound.{is_own, is_among}
use Rattle.listener_check.specs.Durations.{number_after, point_in, decimal_by, digits_found, tenths_of, length_found, timed, duration_read}
use Rattle.listener_check.specs.Durations.{first_digit as first_of, tenths as tenths_made}
use Rattle.listener_check.specs.Limits.{short, sum_codes, with_sum, sum_read}
use Rattle.listener_check.specs.Names.{mentions}
use Rattle.listener_check.specs.Operands.{Layer, place_layer, place_of, field_layer, field_in, fields_in, path_layer, path_in, placed, bound, signed, added_operand, sum_layer, sum_operand, given_operand, operand_of, is_integer, named_operand, operand_read}
use Rattle.listener_check.specs.Operands.{layer_of as typed_layer}
use Rattle.listener_check.specs.Values.{layer_of, is_field_layer, is_field, is_root_layer, is_root, is_path_layer, is_path, is_path_of, links_naming, form_layer, form_of, naming_of, sign_naming, duration_naming, is_astray, exactly, named_value}
use Rattle.listener_check.specs.Went.{Went, went, behind, given, ◌>>=◌}
use Rattle.stmt_check.specs.Captures.{Names, any_of, expr_node, suffix_node, expr_names, suffix_names, link_names, entry_names, duration_node, duration_names}
use Rattle.stmt_check.specs.Captures.{entry_step as entry_naming, expr_step as expr_naming, link_step as link_naming, suffix_step as suffix_naming}
use Rattle.name_resolution.specs.Names.{Named, Meant, Around, meaning_of}
use Rattle.name_resolution.specs.Expressions.{Form, TypedStep, number_behind, number, typed_form, typed_step, step_of, variable_form, ExprIs, LinksAre, StepsAre, StepIs}
use Rattle.name_resolution.specs.Expressions.{Step as StepForm}
use Rattle.name_resolution.specs.Expressions as step
use Rattle.name_resolution.specs.Expressions.{form_of as form}
use Rattle.name_resolution.specs.Events.{Inside, Given, DurationIs, BoundAs, FieldsAre, PathIs, OperandIs, first_digit, tenths_at, tenths}
use Rattle.name_resolution.specs.Events as rule
use Rattle.name_resolution.proofs.Sure.{Sure, sure_sound, sure_then, no_told, no_if}
use Rattle.name_resolution.proofs.Thus.{Thus, thus_went, thus_then, thus_behind, thus_given, thus_weaker}
use Rattle.name_resolution.proofs.Agreeing.{Agrees, ActionsAgree, variable_by, meant_by, agrees_left}
use Rattle.name_resolution.proofs.Inversion.{postfix_parts, sum_parts, name_parts}
use Rattle.name_resolution.proofs.Judging.{Is, plain_at}
use Rattle.name_resolution.proofs.Trees.{expr_reads}

-- ---- what stands in front

-- fewer operands than were counted
pub record Room (s : Sofar) : Type 0 where
  pub few : length s.operands ≤ s.sums
  pub limit : s.sums ≤ 192

pub record Spare (s : Sofar) : Type 0 where
  pub fewer : length s.operands < s.sums
  pub limit : s.sums ≤ 192

-- the operands and names so far are the first of these
pub record Ends (t : Sofar) (operands : List TypedExpr) (listed : List (List ℕ)) : Type 0 where
  pub more : List TypedExpr
  pub are : operands ≡ t.operands ++ more
  pub more_names : List (List ℕ)
  pub names_are : listed ≡ t.names ++ more_names

pub record Behind (s t : Sofar) : Type 0 where
  pub room : Room t
  pub ends : Ends s t.operands t.names

ends_on : (s t : Sofar) (operands : List TypedExpr) (listed : List (List ℕ)) → Ends s t.operands t.names → Ends t operands listed → Ends s operands listed
ends_on s t operands listed h k = record {
  more = h.more ++ k.more;
  are = k.are ∙ ap (λ (l : List TypedExpr). l ++ k.more) h.are ∙ append_assoc s.operands h.more k.more;
  more_names = h.more_names ++ k.more_names;
  names_are = k.names_are ∙ ap (λ (l : List (List ℕ)). l ++ k.more_names) h.names_are ∙ append_assoc s.names h.more_names k.more_names;
}

behind_on : (s t u : Sofar) → Behind s t → Behind t u → Behind s u
behind_on s t u h k = record { room = k.room; ends = ends_on s t u.operands u.names h.ends k.ends }

pub behind_same : (s t : Sofar) → t.operands ≡ s.operands → t.names ≡ s.names → Room t → Behind s t
behind_same s t same names room = record { room = room; ends = record { more = []; are = same ∙ sym (append-nil s.operands); more_names = []; names_are = names ∙ sym (append-nil s.names) } }

behind_summed : (s t : Sofar) → Behind (with_sum s) t → Behind s t
behind_summed s t h = let e = h.ends in record { room = h.room; ends = record { more = e.more; are = e.are; more_names = e.more_names; names_are = e.names_are } }

module _ (around : Around) (names bound_names : List Named) (listed : List (List ℕ)) where
  abbrev pub within : List TypedExpr → Inside
  within operands = record { around = around; names = names; bound = bound_names; operands = operands }

  -- what holds of a part, among the operands that are there in the end
  pub record Stays {A : Type 0} (P : Inside → A → Type 0) (s : Sofar) (x : A) (t : Sofar) : Type 0 where
    pub behind : Behind s t
    pub good : (operands : List TypedExpr) → Ends t operands listed → P (within operands) x

  -- a part, and what is read behind it
  pub stays_then : {A B : Type 0} (P : Inside → A → Type 0) (Q : Inside → B → Type 0) (w : Went A) (n : A → Sofar → Went B) (s : Sofar) → Thus (Stays P s) w
      → ((x : A) (t : Sofar) → Room t → Thus (Stays (λ i y. P i x → Q i y) t) (n x t)) → Thus (Stays Q s) (w >>= n)
  stays_then P Q w n s first next = thus_then (Stays P s) (Stays Q s) w n first (λ x t h.
      thus_weaker (Stays (λ i y. P i x → Q i y) t) (Stays Q s) (n x t) (next x t h.behind.room) (λ y u k. record {
        behind = behind_on s t u h.behind k.behind;
        good = λ operands ends. k.good operands ends (h.good operands (ends_on t u operands listed k.behind.ends ends));
      }))

  pub stays_went : {A : Type 0} (P : Inside → A → Type 0) (x : A) (s : Sofar) → Room s → ((i : Inside) → i ≡ within i.operands → P i x) → Thus (Stays P s) (went x s)
  stays_went P x s room h = thus_went (Stays P s) x s (record { behind = behind_same s s refl refl room; good = λ operands ends. h (within operands) refl })

  pub stays_behind : {A : Type 0} (P : Inside → A → Type 0) (spot : Spot) (codes : List ℕ) (w : Went A) (s : Sofar) → (codes ≡ [] → Thus (Stays P s) w) → Thus (Stays P s) (behind (told spot codes) w)
  stays_behind P spot codes w s h = thus_behind (Stays P s) (told spot codes) w (λ none. h (no_told spot codes none))

  -- ---- what is evaluated at the `on`

  spare : (s : Sofar) → Room s → sum_codes s ≡ [] → Spare (with_sum s)
  spare s r none =
      let below = no_if (nat_le 192 s.sums) 4 none in
      let few = r.few in
      record { fewer = omega arith; limit = grind (arith, nat_tests) }

  roomy : (s : Sofar) → Spare s → Room s
  roomy s r = let fewer = r.fewer in record { few = omega arith; limit = r.limit }

  -- an operand or duration is counted, and then read
  pub summed : {A : Type 0} (P : Inside → A → Type 0) (spot : Spot) (n : Unit {0} → Sofar → Went A) (s : Sofar) → Room s → (Spare (with_sum s) → Thus (Stays P (with_sum s)) (n tt (with_sum s))) → Thus (Stays P s) (sum_read spot s >>= n)
  unfolding sum_read
  summed P spot n s r next =
      thus_then (λ x t. (t ≡ with_sum s) × Spare (with_sum s)) (Stays P s) (behind (told spot (sum_codes s)) (went tt (with_sum s))) n
      (thus_behind (λ x t. (t ≡ with_sum s) × Spare (with_sum s)) (told spot (sum_codes s)) (went tt (with_sum s)) (λ none. thus_went (λ x t. (t ≡ with_sum s) × Spare (with_sum s)) tt (with_sum s) (refl, spare s r (no_told spot (sum_codes s) none))))
      (λ x t h. subst (λ (u : Sofar). Thus (Stays P s) (n tt u)) (sym h.0) (thus_weaker (Stays P (with_sum s)) (Stays P s) (n tt (with_sum s)) (next h.1) (λ y u k. record { behind = behind_summed s u k.behind; good = k.good })))

  last_at : (xs : List TypedExpr) (x : TypedExpr) (more : List TypedExpr) → slice_get ((xs ++ x ∷ []) ++ more) (length xs) ≡ Some x
  last_at [] x more = refl
  last_at (y ∷ xs) x more = last_at xs x more

  placed_at : (s : Sofar) (x : TypedExpr) (operands : List TypedExpr) → Spare s → Ends (record s { operands = s.operands ++ x ∷ [] }) operands listed → slice_get operands (short (length s.operands)) ≡ Some x
  placed_at s x operands r ends =
      let fewer = r.fewer in let limit = r.limit in
      let small : short (length s.operands) ≡ length s.operands = omega arith in
      ap (slice_get operands) small ∙ ap (λ (l : List TypedExpr). slice_get l (length s.operands)) ends.are ∙ last_at s.operands x ends.more

  -- a value by its place
  pub record PlacedAs (P : TypedExpr → Type 0) (i : Inside) (at : ℕ) : Type 0 where
    pub value : TypedExpr
    pub there : slice_get i.operands at ≡ Some value
    pub good : P value

  pub placed_stays : (P : TypedExpr → Type 0) (x : TypedExpr) (s : Sofar) → Spare s → P x → Thus (Stays (PlacedAs P) s) (placed x s)
  unfolding placed
  placed_stays P x s r p =
      let long = length-append s.operands (x ∷ []) in
      let fewer = r.fewer in
      thus_went (Stays (PlacedAs P) s) (short (length s.operands)) (record s { operands = s.operands ++ x ∷ [] }) (record {
        behind = record { room = record { few = omega arith; limit = r.limit }; ends = record { more = x ∷ []; are = refl; more_names = []; names_are = sym (append-nil s.names) } };
        good = λ operands ends. record { value = x; there = placed_at s x operands r ends; good = p };
      })

  module _ (table : Table) (scope inner : Scope) (types : table.types ≡ around.types) (acts : ActionsAgree table inner around.actions around.first) (owned : (name : List ℕ) (s : Seen) → is_own scope inner name ≡ true → seen inner name ≡ Some s → (meaning_of bound_names name ≡ Some (meant_by s)) × (s.kind ≡ kind.Bound)) where
    abbrev Known : Names → Type 0
    Known named = Agrees names inner named

    -- an expression in the scope of the operands
    value_sure : (n : Naming) (s : Shape) (e : Expr) → Known (expr_names e) → Sure (λ x. ExprIs around names e x) (named_value table inner n s e)
    unfolding named_value
    value_sure n s e known =
        sure_then (Is around names e) (λ x. ExprIs around names e x) (part_of table inner e (exactly s (is_astray n))) typed_of (plain_at around names e (part_of table inner e) (exactly s (is_astray n)) refl (expr_reads table inner around names types acts e known))
        (λ j is. sure_sound (λ x. ExprIs around names e x) j.typed is)

    abbrev Valued : Expr → TypedExpr → Type 0
    Valued e x = ExprIs around names e x

    given_by : (e : Expr) (operands : List TypedExpr) (at : ℕ) → PlacedAs (Valued e) (within operands) at → Given (within operands) e at
    given_by e operands at p = record { value = p.value; there = p.there; resolved = p.good }

    -- ---- durations

    numbers : (n : ℕ) (digits : List ℕ) → number_after n digits ≡ number_behind n digits
    numbers n [] = refl
    numbers n (digit ∷ digits) = numbers (n * 10 + (digit - 48)) digits

    first_same : (digits : List ℕ) → first_of digits ≡ first_digit digits
    first_same [] = refl
    first_same (digit ∷ digits) = refl

    tenths_same : (whole rest : List ℕ) → tenths_of whole rest ≡ number whole * 10 + first_digit rest
    tenths_same whole rest = ap (λ (n : ℕ). n * 10 + first_of rest) (numbers 0 whole) ∙ ap (λ (n : ℕ). number whole * 10 + n) (first_same rest)

    made_tenths : (n m : ℕ) → n ≡ m → typed_form (tenths_made n) ≡ typed.Tenths (pos m)
    made_tenths n m is = ap (λ (e : TypedExpr-F TypedNode TypedSuffixNode TypedEntry TypedExpr TypedLink TypedSuffix). out-TypedNode e.node) (out-roll-TypedExpr (record { shape = Some shape.Integer; node = made.Tenths (pos n) })) ∙ made.outs-Tenths (pos n) ∙ ap (λ (k : ℕ). typed.Tenths (pos k)) is

    decimal_is : (spot : Spot) (text : List ℕ) (o : Option ℕ) → typed_form (decimal_by spot text o).part ≡ typed.Tenths (pos (tenths_at text o))
    unfolding digits_found
    decimal_is spot text (Some at) = made_tenths (tenths_of (take at text) (drop (at + 1) text)) (tenths_at text (Some at)) (tenths_same (take at text) (drop (at + 1) text))
    decimal_is spot text None = made_tenths (tenths_of text []) (tenths_at text None) (tenths_same text [])

    abbrev LengthIs : DurationNode → TypedExpr → Type 0
    LengthIs (duration.Decimal text) x = typed_form x ≡ typed.Tenths (pos (tenths text))
    LengthIs (duration.Seconds e) x = ExprIs around names e x

    length_sure : (spot : Spot) (d : DurationNode) → Known (duration_node d) → Sure (LengthIs d) (length_found table scope inner spot d)
    unfolding point_in length_found
    length_sure spot (duration.Decimal text) known = record { where_clear = λ h. decimal_is spot text (position (λ c. c == 46) text) }
    length_sure spot (duration.Seconds e) known = value_sure (duration_naming scope inner e) shape.Integer e known

    duration_by : (d : DurationNode) (operands : List TypedExpr) (at : ℕ) → PlacedAs (LengthIs d) (within operands) at → DurationIs (within operands) d at
    duration_by (duration.Decimal text) operands at p = rule.decimal p.there p.good
    duration_by (duration.Seconds e) operands at p = rule.seconds (record { value = p.value; there = p.there; resolved = p.good })

    -- its operand at its place
    abbrev Lasting : DurationNode → Inside → Timed → Type 0
    Lasting d i timed = DurationIs i d timed.operand

    timed_stays : (d : DurationNode) (x : TypedExpr) (s : Sofar) → Spare s → LengthIs d x → Thus (Stays (Lasting d) s) (timed x s)
    unfolding timed
    timed_stays d x s spare is =
        stays_then (PlacedAs (LengthIs d)) (Lasting d) (placed x s) (λ at t. went (record { operand = at; tenths = is_tenths x }) t) s (placed_stays (LengthIs d) x s spare is)
        (λ at t room. thus_went (Stays (λ i y. PlacedAs (LengthIs d) i at → Lasting d i y) t) (record { operand = at; tenths = is_tenths x }) t (record { behind = behind_same t t refl refl room; good = λ operands ends p. duration_by d operands at p }))

    pub duration_stays : (d : Duration) (s : Sofar) → Known (duration_names d) → Room s → Thus (Stays (Lasting d.node) s) (duration_read table scope inner d s)
    unfolding duration_read
    duration_stays d s known room =
        summed (Lasting d.node) d.spot (λ _ s. given (length_found table scope inner d.spot d.node) s >>= λ x s. timed x s) s room (λ spare.
        thus_then (λ x t. (t ≡ with_sum s) × LengthIs d.node x) (Stays (Lasting d.node) (with_sum s)) (given (length_found table scope inner d.spot d.node) (with_sum s)) (λ x s. timed x s)
        (thus_given (LengthIs d.node) (λ x t. (t ≡ with_sum s) × LengthIs d.node x) (length_found table scope inner d.spot d.node) (with_sum s) (length_sure d.spot d.node known) (λ x p. (refl, p)))
        (λ x t h. subst (λ (u : Sofar). Thus (Stays (Lasting d.node) (with_sum s)) (timed x u)) (sym h.0) (timed_stays d.node x (with_sum s) spare h.1)))

    -- ---- operands

    -- a path of fields from a bound name, as it is written
    record PathNamed (e : Expr) : Type 0 where
      first : Expr
      steps : List Suffix
      name : List ℕ
      is : form e ≡ tree.Postfix first steps
      root : form first ≡ tree.Name name
      own : is_own scope inner name ≡ true
      fields : list_all is_field steps ≡ true

    -- such a path plus or minus an operand
    record SumNamed (e : Expr) (o : Operator) : Type 0 where
      first : Expr
      link : Link
      is : form e ≡ tree.Sum first (link ∷ [])
      sign : (out-Link link).operator ≡ o
      path : PathNamed first

    abbrev NamedAs : Naming → Expr → Type 0
    NamedAs naming.Path e = PathNamed e
    NamedAs naming.Plus e = SumNamed e operator.Add
    NamedAs naming.Minus e = SumNamed e operator.Subtract
    NamedAs n e = Unit {0}

    record RootNamed (first : Expr) : Type 0 where
      name : List ℕ
      root : form first ≡ tree.Name name
      own : is_own scope inner name ≡ true

    root_named : (left : List (List ℕ)) (first : Expr) (l : Form) → form first ≡ l → is_root_layer scope inner left l ≡ true → RootNamed first
    root_named left first (tree.Name name) is h = record { name = name; root = is; own = (and_parts (is_own scope inner name) (is_among left name) h).0 }
    root_named left first l is h = absurd (cc)

    path_so : (left : List (List ℕ)) (e first : Expr) (us : List Suffix) → form e ≡ tree.Postfix first us → is_path_of scope inner left first us ≡ true → PathNamed e
    unfolding is_root
    path_so left e first us is h =
        let both = and_parts (is_root scope inner left first) (list_all is_field us) h in
        let r = root_named left first (layer_of first) refl both.0 in
        record { first = first; steps = us; name = r.name; is = is; root = r.root; own = r.own; fields = both.1 }

    path_layer_so : (left : List (List ℕ)) (e : Expr) (l : Form) → form e ≡ l → is_path_layer scope inner left l ≡ true → PathNamed e
    path_layer_so left e (tree.Postfix first us) is h = path_so left e first us is h
    path_layer_so left e l is h = absurd (cc)

    sign_is : (e first : Expr) (link : Link) (o : Operator) → form e ≡ tree.Sum first (link ∷ []) → (out-Link link).operator ≡ o → PathNamed first → NamedAs (sign_naming o) e
    sign_is e first link operator.Add is sign p = record { first = first; link = link; is = is; sign = sign; path = p }
    sign_is e first link operator.Subtract is sign p = record { first = first; link = link; is = is; sign = sign; path = p }
    sign_is e first link o is sign p = tt

    link_is : (left : List (List ℕ)) (e first : Expr) (link : Link) (b : Bool) → (is_path scope inner left first && not (mentions (is_own scope inner) (out-Link link).operand)) ≡ b → form e ≡ tree.Sum first (link ∷ []) → NamedAs (if b then sign_naming (out-Link link).operator else naming.Astray) e
    unfolding is_path
    link_is left e first link true so is = sign_is e first link (out-Link link).operator is refl (path_layer_so left first (layer_of first) refl (and_parts (is_path scope inner left first) (not (mentions (is_own scope inner) (out-Link link).operand)) so).0)
    link_is left e first link false so is = tt

    links_are : (left : List (List ℕ)) (e first : Expr) (links : List Link) → form e ≡ tree.Sum first links → NamedAs (links_naming scope inner left first links) e
    links_are left e first [] is = tt
    links_are left e first (link ∷ []) is = link_is left e first link (is_path scope inner left first && not (mentions (is_own scope inner) (out-Link link).operand)) refl is
    links_are left e first (link ∷ next ∷ links) is = tt

    path_named : (left : List (List ℕ)) (e first : Expr) (us : List Suffix) (b : Bool) → is_path_of scope inner left first us ≡ b → form e ≡ tree.Postfix first us → NamedAs (if b then naming.Path else naming.Astray) e
    path_named left e first us true so is = path_so left e first us is so
    path_named left e first us false so is = tt

    sum_named : (left : List (List ℕ)) (e first : Expr) (links : List Link) (b : Bool) → form e ≡ tree.Sum first links → NamedAs (if b then links_naming scope inner left first links else naming.Astray) e
    sum_named left e first links true is = links_are left e first links is
    sum_named left e first links false is = tt

    form_named : (left : List (List ℕ)) (integer : Bool) (e : Expr) (l : Form) → form e ≡ l → NamedAs (form_layer scope inner left integer l) e
    form_named left integer e (tree.Postfix first us) is = path_named left e first us (is_path_of scope inner left first us) refl is
    form_named left integer e (tree.Sum first links) is = sum_named left e first links integer is
    form_named left integer e l is = tt

    naming_by : (left : List (List ℕ)) (integer : Bool) (e : Expr) (b : Bool) → NamedAs (if b then form_of scope inner left integer e else naming.Free) e
    unfolding form_of
    naming_by left integer e true = form_named left integer e (layer_of e) refl
    naming_by left integer e false = tt

    naming_is : (left : List (List ℕ)) (integer : Bool) (e : Expr) → NamedAs (naming_of scope inner left integer e) e
    naming_is left integer e = naming_by left integer e (mentions (is_own scope inner) e)

    -- ---- paths

    seen_so : (m : Meant) (o : Option Seen) → option_map meant_by o ≡ Some m → (s : Seen) × (o ≡ Some s) × (meant_by s ≡ m)
    seen_so m None h = absurd (cc)
    seen_so m (Some s) h = (s, refl, cc)

    bound_place : (k : SeenKind) (n : ℕ) → k ≡ kind.Bound → variable_by k n ≡ var.Local n
    bound_place k n is = ap (λ (j : SeenKind). variable_by j n) is

    next_field : {s : Option Shape} {f : StepForm} {t : TypedStep} {to : Option Shape} → StepIs around names s f t to → (u : Suffix) (us : List Suffix) (y : TypedSuffix) (ns : List ℕ) → step_of u ≡ f → typed_step y ≡ t → (out-TypedSuffix y).shape ≡ to → is_field_layer f ≡ true → FieldsAre around.types (out-TypedSuffix y).shape us ns → FieldsAre around.types s (u ∷ us) (field_in y ++ ns)
    unfolding field_in
    next_field (step.field {s = z} {n = n} o at num got) u us y ns is ty shaped field rest =
        subst (λ (l : List ℕ). FieldsAre around.types (Some z) (u ∷ us) (l ++ ns)) (sym (ap field_layer ty)) (rule.a_field is o at num got (subst (λ (q : Option Shape). FieldsAre around.types q us ns) shaped rest))
    next_field (step.item o h) u us y ns is ty shaped field rest = absurd (cc)
    next_field (step.key o h) u us y ns is ty shaped field rest = absurd (cc)
    next_field (step.method o h) u us y ns is ty shaped field rest = absurd (cc)
    next_field step.unshaped u us y ns is ty shaped field rest = rule.unshaped

    fields_are : {s : Option Shape} {us : List Suffix} {ys : List TypedSuffix} → StepsAre around names s us ys → list_all is_field us ≡ true → FieldsAre around.types s us (fields_in ys)
    unfolding is_field
    fields_are step.no_steps h = rule.no_fields
    fields_are (step.step {u = u} {us = us} {y = y} {ys = ys} st rest) h =
        let both = and_parts (is_field u) (list_all is_field us) h in
        next_field st u us y (fields_in ys) refl refl refl both.0 (fields_are rest both.1)

    abbrev node_named : Form → ExprNode-F Names Names Names Names Names Names
    node_named f = map-ExprNode ExprNode SuffixNode Entry Expr Link Suffix Names Names Names Names Names Names (fold-ExprNode Names Names Names Names Names Names expr_node suffix_node entry_naming expr_naming link_naming suffix_naming) (fold-SuffixNode Names Names Names Names Names Names expr_node suffix_node entry_naming expr_naming link_naming suffix_naming) entry_names expr_names link_names suffix_names f

    -- the names of an expression, by its form
    names_form : (e : Expr) (f : Form) → form e ≡ f → expr_names e ≡ expr_node (node_named f)
    names_form e f is = fold_out-Expr Names Names Names Names Names Names expr_node suffix_node entry_naming expr_naming link_naming suffix_naming e ∙ fold_out-ExprNode Names Names Names Names Names Names expr_node suffix_node entry_naming expr_naming link_naming suffix_naming (out-Expr e).node ∙ ap (λ (g : Form). expr_node (node_named g)) is

    path_is : (operands : List TypedExpr) (e : Expr) (x : TypedExpr) → PathNamed e → Known (expr_names e) → ExprIs around names e x → PathIs (within operands) e (path_in x).place (path_in x).fields
    unfolding path_in place_of
    path_is operands e x p known h =
        let q = postfix_parts around names e p.first p.steps x p.is h in
        let n = name_parts around names p.first p.name q.value p.root q.first_is in
        let member : expr_names e p.name ≡ true = ap (λ (m : Names). m p.name) (names_form e (tree.Postfix p.first p.steps) p.is) ∙ or_left (expr_names p.first p.name) (any_of (map suffix_names p.steps) p.name) (ap (λ (m : Names). m p.name) (names_form p.first (tree.Name p.name) p.root) ∙ (bytes_eq-Decides p.name p.name).1 refl) in
        let s = seen_so n.meant (seen inner p.name) (sym (known.same p.name member) ∙ n.there) in
        let o = owned p.name s.0 p.own s.1 in
        let variable : n.meant.variable ≡ var.Local s.0.number = ap (λ (m : Meant). m.variable) (sym s.2) ∙ bound_place s.0.kind s.0.number o.1 in
        let place : place_layer (typed_layer q.value) ≡ s.0.number = ap place_layer (n.made ∙ ap variable_form variable) in
        let placed_so : BoundAs (within operands) p.name (place_layer (typed_layer q.value)) n.meant.shape = record { meant = n.meant; there = o.0 ∙ ap (λ (m : Meant). Some m) s.2; variable_is = variable ∙ ap (λ (k : ℕ). var.Local k) (sym place); shape_is = refl } in
        let whole = rule.path p.is p.root placed_so (subst (λ (t : Option Shape). FieldsAre around.types t p.steps (fields_in q.steps)) n.shaped (fields_are q.steps_are p.fields)) in
        subst (λ (r : Reached). PathIs (within operands) e r.place r.fields) (sym (ap path_layer q.is)) whole

    -- ---- operands

    abbrev OperandOf : Expr → Inside → Operand → Type 0
    OperandOf e i o = OperandIs i e o

    given_stays : (e : Expr) (x : TypedExpr) (s : Sofar) → Spare s → ExprIs around names e x → Thus (Stays (OperandOf e) s) (given_operand x s)
    unfolding given_operand
    given_stays e x s spare h =
        stays_then (PlacedAs (Valued e)) (OperandOf e) (placed x s) (λ at t. went (operand.Given at) t) s (placed_stays (Valued e) x s spare h)
        (λ at t room. thus_went (Stays (λ i o. PlacedAs (Valued e) i at → OperandOf e i o) t) (operand.Given at) t (record { behind = behind_same t t refl refl room; good = λ operands ends p. rule.given (given_by e operands at p) }))

    bound_stays : (e : Expr) (r : Reached) (s : Sofar) → Room s → ((operands : List TypedExpr) → PathIs (within operands) e r.place r.fields) → Thus (Stays (OperandOf e) s) (went (bound r) s)
    bound_stays e r s room p = thus_went (Stays (OperandOf e) s) (bound r) s (record { behind = behind_same s s refl refl room; good = λ operands ends. rule.bound (p operands) })

    -- the one link of a sum
    no_more_links : {ls : List Link} {ys : List TypedLink} → LinksAre around names ls ys → ls ≡ [] → ys ≡ []
    no_more_links step.no_links is = refl
    no_more_links (step.link o h rest) is = absurd (cc)

    one_link : {ls : List Link} {ys : List TypedLink} (link : Link) → LinksAre around names ls ys → ls ≡ link ∷ [] → (y : TypedLink) × (ys ≡ y ∷ []) × ExprIs around names (out-Link link).operand (out-TypedLink y).operand
    one_link link step.no_links is = absurd (cc)
    one_link link (step.link {l = l} {ls = ls} {y = y} o h rest) is =
        let same : l ≡ link = cc in
        let none : ls ≡ [] = cc in
        (y, ap (λ (l : List TypedLink). y ∷ l) (no_more_links rest none), subst (λ (k : Link). ExprIs around names (out-Link k).operand (out-TypedLink y).operand) same h)

    -- a path plus or minus what is placed
    sum_stays : (e : Expr) (o : Operator) (n : Naming) (x : TypedExpr) (s : Sofar) → (so : SumNamed e o) → Known (expr_names e) → Spare s → ExprIs around names e x
        → ((r : Reached) (i : Inside) (at : ℕ) → PathIs i so.first r.place r.fields → Given i (out-Link so.link).operand at → OperandIs i e (signed n r at)) → Thus (Stays (OperandOf e) s) (sum_operand n x s)
    unfolding sum_operand added_operand
    sum_stays e o n x s so known spare h make =
        let q = sum_parts around names e so.first (so.link ∷ []) x so.is h in
        let y = one_link so.link q.links_are refl in
        let first_known : Known (expr_names so.first) = agrees_left names inner (expr_names so.first) (any_of (map link_names (so.link ∷ []))) (subst (λ (m : Names). Known m) (names_form e (tree.Sum so.first (so.link ∷ [])) so.is) known) in
        let r = path_in q.value in
        let is : typed_layer x ≡ typed.Sum q.value (y.0 ∷ []) = q.is ∙ ap (λ (l : List TypedLink). typed.Sum q.value l) y.1 in
        subst (λ (l : Layer). Thus (Stays (OperandOf e) s) (sum_layer n l s)) (sym is)
        (stays_then (PlacedAs (Valued (out-Link so.link).operand)) (OperandOf e) (placed (out-TypedLink y.0).operand s) (λ at t. went (signed n r at) t) s (placed_stays (Valued (out-Link so.link).operand) (out-TypedLink y.0).operand s spare y.2)
        (λ at t room. thus_went (Stays (λ i z. PlacedAs (Valued (out-Link so.link).operand) i at → OperandOf e i z) t) (signed n r at) t (record { behind = behind_same t t refl refl room; good = λ operands ends p. make r (within operands) at (path_is operands so.first q.value so.path first_known q.first_is) (given_by (out-Link so.link).operand operands at p) })))

    operand_by : (n : Naming) (e : Expr) (x : TypedExpr) (s : Sofar) → NamedAs n e → Known (expr_names e) → Spare s → ExprIs around names e x → Thus (Stays (OperandOf e) s) (operand_of n x s)
    unfolding operand_of
    operand_by naming.Path e x s is known spare h = bound_stays e (path_in x) s (roomy s spare) (λ operands. path_is operands e x is known h)
    operand_by naming.Plus e x s is known spare h = sum_stays e operator.Add naming.Plus x s is known spare h (λ r i at p g. rule.plus is.is is.sign p g)
    operand_by naming.Minus e x s is known spare h = sum_stays e operator.Subtract naming.Minus x s is known spare h (λ r i at p g. rule.minus is.is is.sign p g)
    operand_by n e x s is known spare h = given_stays e x s spare h

    pub operand_stays : (left : List (List ℕ)) (s : Shape) (e : Expr) (t : Sofar) → Known (expr_names e) → Room t → Thus (Stays (OperandOf e) t) (operand_read table scope inner left s e t)
    unfolding operand_read named_operand
    operand_stays left s e t known room =
        let n = naming_of scope inner left (is_integer s) e in
        summed (OperandOf e) (out-Expr e).spot (λ _ u. named_operand table scope inner n s e u) t room (λ spare.
        thus_then (λ x u. (u ≡ with_sum t) × ExprIs around names e x) (Stays (OperandOf e) (with_sum t)) (given (named_value table inner n s e) (with_sum t)) (λ x u. operand_of n x u)
        (thus_given (λ x. ExprIs around names e x) (λ x u. (u ≡ with_sum t) × ExprIs around names e x) (named_value table inner n s e) (with_sum t) (value_sure n s e known) (λ x p. (refl, p)))
        (λ x u h. subst (λ (v : Sofar). Thus (Stays (OperandOf e) (with_sum t)) (operand_of n x v)) (sym h.0) (operand_by n e x (with_sum t) (naming_is left (is_integer s) e) known spare h.1)))
