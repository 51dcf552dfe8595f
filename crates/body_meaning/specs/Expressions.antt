-- What expressions mean: their operands from left to right, and then themselves.
use Rattle.std.specs.Prelude.{◌==◌, if◌then◌else◌, ◌∷◌, ◌++◌}
use Rattle.body_meaning.specs.Common.{ℕ, not, Bool, true, false, List, [], map, Option, Some, None, Result, Ok, Err, Shape, EventShape, Value, Pair, Comparison, Operator, Method, TypedExpr, TypedSuffix, Variable, default_of}
use Rattle.epl_values.specs.declared.value.Value.TheVariants as value
use Rattle.epl_tree.specs.declared.expression.Operator.TheVariants as operator
use Rattle.typed_program.specs.declared.expression.Method.TheVariants as method
use Rattle.typed_program.specs.declared.expression.TypedNode.TheOpen.{TypedNode-F, TypedSuffixNode-F, TypedEntry-F, TypedExpr-F, TypedLink-F, TypedSuffix-F}
use Rattle.typed_program.specs.declared.expression.TypedNode.TheFolds.{fold-TypedExpr, fold-TypedSuffix}
use Rattle.typed_program.specs.declared.statement.Variable.TheVariants as variable
use Rattle.body_meaning.specs.declared.run.Move.{Move}
use Rattle.body_meaning.specs.declared.run.Move.TheVariants as move
use Rattle.body_meaning.specs.Runs.{M, ◌>>=◌, ◌>>◌, pure, given, look, change, choose, all, two}
use Rattle.body_meaning.specs.Values.{integer_of, truth_of, letters_of, is_text, calculated, negated, compared, differ}
use Rattle.body_meaning.specs.Paths.{part, with_entry, variable_in, alter, or_none}
use Rattle.body_meaning.specs.Methods.{text_charged, called, changed_by}
use Rattle.body_meaning.specs.Effects.{make_context, current}

-- a call of an action by its number
abbrev pub Calls : Type 0
Calls = ℕ → List Value → M Value

-- a variable, and the steps from it, each with its index or key
pub record Place : Type 0 where
  pub variable : Variable
  pub moves : List (M Move)

-- a method that changes its object, and its arguments
pub record Change : Type 0 where
  pub method : Method
  pub arguments : M (List Value)

-- an expression: its value; the place, where it is a path; and what it does as a statement
pub record Meant : Type 0 where
  pub value : M Value
  pub place : Option Place
  pub run : M Value

-- a step behind a value: what it reaches from it; the step of a path, where it is one; and the change, where it is one
pub record Reach : Type 0 where
  pub from : Value → M Value
  pub move : Option (M Move)
  pub change : Option Change

pub record Pairing : Type 0 where
  pub key : M Value
  pub value : M Value

pub record Linking : Type 0 where
  pub operator : Operator
  pub operand : M Value

-- ---- operators

-- `or` and `and` don't look at what is behind the value that decides
abbrev pub or_from : List (M Value) → Value → M Value
or_from [] v = pure v
or_from (m ∷ ms) v = choose (truth_of v) (pure v) (m >>= or_from ms)

abbrev pub and_from : List (M Value) → Value → M Value
and_from [] v = pure v
and_from (m ∷ ms) v = choose (truth_of v) (m >>= and_from ms) (pure v)

abbrev pub xor_from : List (M Value) → Value → M Value
xor_from [] v = pure v
xor_from (m ∷ ms) v = m >>= (λ w. xor_from ms (value.Boolean (differ (truth_of v) (truth_of w))))

-- texts are joined, and integers calculated
unfoldable pub operate : Operator → Value → Value → M Value
operate o v w = choose (is_text v) (text_charged (letters_of v ++ letters_of w)) (given (calculated o v w))

abbrev pub links_from : List Linking → Value → M Value
links_from [] v = pure v
links_from (l ∷ ls) v = l.operand >>= (λ w. operate l.operator v w >>= links_from ls)

-- ---- literals

abbrev pub entries_behind : List Pair → List Pairing → M (List Pair)
entries_behind pairs [] = pure pairs
entries_behind pairs (p ∷ ps) = p.key >>= (λ key. p.value >>= (λ v. entries_behind (with_entry key v pairs) ps))

-- ---- paths

abbrev pub reach_from : List Reach → Value → M Value
reach_from [] v = pure v
reach_from (r ∷ rs) v = r.from v >>= reach_from rs

abbrev pub with_move : Option (M Move) → Option (List (M Move)) → Option (List (M Move))
with_move (Some m) (Some ms) = Some (m ∷ ms)
with_move m ms = None

-- the steps of a path, where all are
abbrev pub moves_of : List Reach → Option (List (M Move))
moves_of [] = Some []
moves_of (r ∷ rs) = with_move r.move (moves_of rs)

abbrev pub further : Place → Option (List (M Move)) → Option Place
further p None = None
further p (Some ms) = Some (record { variable = p.variable; moves = p.moves ++ ms })

abbrev pub place_behind : Option Place → List Reach → Option Place
place_behind None rs = None
place_behind (Some p) rs = further p (moves_of rs)

-- the steps before the last one, and the change at the end
abbrev pub change_at_end : List Reach → Option Change
change_at_end [] = None
change_at_end (r ∷ []) = r.change
change_at_end (r ∷ s ∷ rs) = change_at_end (s ∷ rs)

abbrev pub but_last : List Reach → List Reach
but_last [] = []
but_last (r ∷ []) = []
but_last (r ∷ s ∷ rs) = r ∷ but_last (s ∷ rs)

-- a change at a place: the indices and keys, then the arguments, and then the path is followed
unfoldable pub change_place : Place → Change → M Value
change_place p c = all p.moves >>= (λ moves. c.arguments >>= (λ arguments. change (alter p.variable moves (changed_by c.method arguments)) >> pure value.NoContext))

abbrev pub run_at : Option Place → Option Change → M Value → M Value
run_at (Some p) (Some c) m = change_place p c
run_at p c m = m

unfoldable pub postfix_value : Meant → List Reach → M Value
postfix_value e steps = e.value >>= reach_from steps

abbrev pub postfix : Meant → List Reach → Meant
postfix e steps = record { value = postfix_value e steps; place = place_behind e.place steps; run = run_at (place_behind e.place (but_last steps)) (change_at_end steps) (postfix_value e steps) }

-- ---- expressions

abbrev pub valued : M Value → Meant
valued m = record { value = m; place = None; run = m }

abbrev pub read : Variable → Meant
read x = record { value = look (variable_in x); place = Some (record { variable = x; moves = [] }); run = look (variable_in x) }

abbrev pub default_by : List EventShape → Option Shape → Value
default_by types None = value.NoContext
default_by types (Some s) = default_of types s

abbrev pub values_of : List Meant → List (M Value)
values_of es = map (λ e. e.value) es

-- a step that changes its object
abbrev pub change_by : Method → M (List Value) → Option Change
change_by method.Append arguments = Some (record { method = method.Append; arguments = arguments })
change_by method.Remove arguments = Some (record { method = method.Remove; arguments = arguments })
change_by method.Clear arguments = Some (record { method = method.Clear; arguments = arguments })
change_by method.Add arguments = Some (record { method = method.Add; arguments = arguments })
change_by m arguments = None

abbrev pub NodeMeant : Type 0
NodeMeant = Option Shape → Meant

abbrev pub item_move : Value → Move
item_move v = move.Item (integer_of v)

abbrev pub key_move : Value → Move
key_move v = move.Key v

abbrev pub reach_by : Meant → (Value → Move) → Reach
reach_by e to = record { from = λ v. e.value >>= (λ i. given (part (to i) v)); move = Some (e.value >>= (λ i. pure (to i))); change = None }

module _ (types : List EventShape) where
  abbrev pub step_meant : TypedSuffixNode-F NodeMeant Reach Pairing Meant Linking Reach → Reach
  step_meant (TypedSuffixNode-F.Field n) = record { from = λ v. given (part (move.Field n) v); move = Some (pure (move.Field n)); change = None }
  step_meant (TypedSuffixNode-F.Item e) = reach_by e item_move
  step_meant (TypedSuffixNode-F.Key e) = reach_by e key_move
  step_meant (TypedSuffixNode-F.Method m es) = record { from = λ v. all (values_of es) >>= (λ arguments. called types m v arguments); move = None; change = change_by m (all (values_of es)) }

  module _ (call : Calls) where
    abbrev pub node_meant : TypedNode-F NodeMeant Reach Pairing Meant Linking Reach → NodeMeant
    node_meant (TypedNode-F.Integer n) s = valued (pure (value.Integer n))
    node_meant (TypedNode-F.Text t) s = valued (pure (value.Text t))
    node_meant (TypedNode-F.Boolean b) s = valued (pure (value.Boolean b))
    node_meant (TypedNode-F.Global n) s = read (variable.Global n)
    node_meant (TypedNode-F.Local n) s = read (variable.Local n)
    node_meant (TypedNode-F.Or e es) s = valued (e.value >>= or_from (values_of es))
    node_meant (TypedNode-F.Xor e es) s = valued (e.value >>= xor_from (values_of es))
    node_meant (TypedNode-F.And e es) s = valued (e.value >>= and_from (values_of es))
    node_meant (TypedNode-F.Not e) s = valued (e.value >>= (λ v. pure (value.Boolean (not (truth_of v)))))
    node_meant (TypedNode-F.Compare e c d) s = valued (two e.value d.value >>= (λ p. pure (compared c p.0 p.1)))
    node_meant (TypedNode-F.Sum e ls) s = valued (e.value >>= links_from ls)
    node_meant (TypedNode-F.Product e ls) s = valued (e.value >>= links_from ls)
    node_meant (TypedNode-F.Minus e) s = valued (e.value >>= (λ v. given (negated v)))
    node_meant (TypedNode-F.Postfix e steps) s = postfix e steps
    node_meant (TypedNode-F.Action n es) s = valued (all (values_of es) >>= call n)
    node_meant (TypedNode-F.Event n es) s = valued (all (values_of es) >>= (λ vs. pure (value.Event n vs)))
    node_meant (TypedNode-F.Sequence es) s = valued (all (values_of es) >>= (λ vs. pure (value.Sequence vs)))
    node_meant (TypedNode-F.Dictionary ps) s = valued (entries_behind [] ps >>= (λ pairs. pure (value.Dictionary pairs)))
    node_meant TypedNode-F.Default s = valued (pure (default_by types s))
    node_meant (TypedNode-F.Context es) s = valued (all (values_of es) >>= make_context)
    node_meant TypedNode-F.ContextCurrent s = valued current
    node_meant (TypedNode-F.Tenths n) s = valued (pure (value.Integer n))

    abbrev pub expr_meant : TypedExpr-F NodeMeant Reach Pairing Meant Linking Reach → Meant
    expr_meant e = e.node e.shape

    abbrev pub entry_meant : TypedEntry-F NodeMeant Reach Pairing Meant Linking Reach → Pairing
    entry_meant e = record { key = e.key.value; value = e.value.value }

    abbrev pub link_meant : TypedLink-F NodeMeant Reach Pairing Meant Linking Reach → Linking
    link_meant l = record { operator = l.operator; operand = l.operand.value }

    abbrev pub suffix_meant : TypedSuffix-F NodeMeant Reach Pairing Meant Linking Reach → Reach
    suffix_meant u = u.node

    unfoldable pub meaning_of : TypedExpr → Meant
    meaning_of = fold-TypedExpr NodeMeant Reach Pairing Meant Linking Reach node_meant step_meant entry_meant expr_meant link_meant suffix_meant

    unfoldable pub reach_of : TypedSuffix → Reach
    reach_of = fold-TypedSuffix NodeMeant Reach Pairing Meant Linking Reach node_meant step_meant entry_meant expr_meant link_meant suffix_meant

    -- the value of an expression
    abbrev pub value_of : TypedExpr → M Value
    value_of e = (meaning_of e).value

    abbrev pub all_values : List TypedExpr → M (List Value)
    all_values es = all (map value_of es)
