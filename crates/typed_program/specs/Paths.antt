-- The rules of visible names, paths and changes in expressions. A path is a variable, or a field or element reached from one.
use Rattle.std.specs.Prelude.{◌+◌, ◌&&◌, ◌||◌, ◌==◌, ◌∷◌, ◌++◌, if◌then◌else◌}
use Rattle.typed_program.specs.Common.{ℕ, Bool, true, false, not, nat_le, List, [], map, length, Option, Some, None, is_some, list_all, list_any, Shape}
use Rattle.std.specs.List.{find}
use Rattle.typed_program.specs.declared.expression.Method.{Method}
use Rattle.typed_program.specs.declared.expression.Method.TheVariants as method
use Rattle.typed_program.specs.declared.expression.TypedExpr.{TypedExpr}
use Rattle.typed_program.specs.declared.expression.TypedSuffix.{TypedSuffix}
use Rattle.typed_program.specs.declared.expression.TypedNode.TheOpen.{TypedNode-F, TypedSuffixNode-F, TypedEntry-F, TypedExpr-F, TypedLink-F, TypedSuffix-F}
use Rattle.typed_program.specs.declared.expression.TypedNode.TheFolds.{fold-TypedExpr, fold-TypedSuffix}
use Rattle.typed_program.specs.Shapes.{is_reference}

-- a variable that may be assigned and changed; one that may not where it is a reference: a parameter or a loop variable; one
-- that never may: a co-assignment
pub data Kind : Type 0 where
  Free : Kind
  Held : Kind
  Bound : Kind

-- a local that is visible, by its number
pub record Visible : Type 0 where
  pub number : ℕ
  pub kind : Kind

-- what is visible, and the actions that are not called: `onload` and `ondie`
pub record Sight : Type 0 where
  pub visible : List Visible
  pub special : List ℕ

-- where a path begins: whether what it leads to may not be changed, whether at a global, and how many index steps it has
pub record Root : Type 0 where
  pub stays : Bool
  pub global : Bool
  pub steps : ℕ

-- an expression: its shape, where it begins if it is a path, and whether it keeps the rules
pub record Path : Type 0 where
  pub shape : Option Shape
  pub root : Option Root
  pub lawful : Bool

abbrev pub is_reference_of : Option Shape → Bool
is_reference_of None = false
is_reference_of (Some s) = is_reference s

abbrev pub stays : Kind → Bool → Bool
stays Free reference = false
stays Held reference = reference
stays Bound reference = true

abbrev pub visible_at : List Visible → ℕ → Option Visible
visible_at names n = find (λ v. v.number == n) names

abbrev pub root_of : Bool → Visible → Root
root_of reference v = record { stays = stays v.kind reference; global = false; steps = 0 }

abbrev pub global_root : Root
global_root = record { stays = false; global = true; steps = 0 }

-- ---- where a path of reference type may stand

-- nowhere but where it is said
abbrev pub plain : Path → Bool
plain e = e.lawful && not (is_some e.root && is_reference_of e.shape)

abbrev pub is_global : Option Root → Bool
is_global None = false
is_global (Some root) = root.global

-- as the argument of a call, where it doesn't begin at a global
abbrev pub argument : Path → Bool
argument e = e.lawful && not (is_global e.root && is_reference_of e.shape)

abbrev pub all_plain : List Path → Bool
all_plain es = list_all plain es

-- ---- steps

abbrev pub changes : Method → Bool
changes method.Append = true
changes method.Remove = true
changes method.Clear = true
changes method.Add = true
changes m = false

-- what may be changed: no co-assignment, parameter or loop variable, and at most 64 index steps away
abbrev pub may_change : Option Root → Bool
may_change None = true
may_change (Some root) = not root.stays && nat_le root.steps 64

abbrev pub farther : Option Root → Option Root
farther None = None
farther (Some root) = Some (record root { steps = root.steps + 1 })

-- a step: whether it may stand behind what begins there, and where what it reaches begins
pub record Going : Type 0 where
  pub may : Option Root → Bool
  pub root : Option Root → Option Root

abbrev pub going_field : Going
going_field = record { may = λ root. true; root = λ root. root }

abbrev pub going_index : Path → Going
going_index e = record { may = λ root. plain e; root = farther }

abbrev pub going_method : Method → List Path → Going
going_method m es = record { may = λ root. all_plain es && (not (changes m) || may_change root); root = λ root. None }

abbrev pub end_of : Option Root → List Going → Option Root
end_of root [] = root
end_of root (g ∷ gs) = end_of (g.root root) gs

abbrev pub goes : Option Root → List Going → Bool
goes root [] = true
goes root (g ∷ gs) = g.may root && goes (g.root root) gs

-- ---- expressions

pub record Pair : Type 0 where
  pub key : Path
  pub value : Path

abbrev pub Node : Type 0
Node = Option Shape → Path

abbrev pub value : Option Shape → Bool → Path
value s lawful = record { shape = s; root = None; lawful = lawful }

abbrev pub local : Option Visible → Option Shape → Path
local None s = record { shape = s; root = None; lawful = false }
local (Some v) s = record { shape = s; root = Some (root_of (is_reference_of s) v); lawful = true }

module _ (sight : Sight) where
  abbrev pub node_path : TypedNode-F Node Going Pair Path Path Going → Node
  node_path (TypedNode-F.Integer n) s = value s true
  node_path (TypedNode-F.Text t) s = value s true
  node_path (TypedNode-F.Boolean b) s = value s true
  node_path (TypedNode-F.Global n) s = record { shape = s; root = Some global_root; lawful = true }
  node_path (TypedNode-F.Local n) s = local (visible_at sight.visible n) s
  node_path (TypedNode-F.Or first rest) s = value s (all_plain (first ∷ rest))
  node_path (TypedNode-F.Xor first rest) s = value s (all_plain (first ∷ rest))
  node_path (TypedNode-F.And first rest) s = value s (all_plain (first ∷ rest))
  node_path (TypedNode-F.Not e) s = value s (plain e)
  node_path (TypedNode-F.Compare left c right) s = value s (plain left && plain right)
  node_path (TypedNode-F.Sum first rest) s = value s (all_plain (first ∷ rest))
  node_path (TypedNode-F.Product first rest) s = value s (all_plain (first ∷ rest))
  node_path (TypedNode-F.Minus e) s = value s (plain e)
  node_path (TypedNode-F.Postfix first steps) s = record { shape = s; root = end_of first.root steps; lawful = first.lawful && goes first.root steps }
  node_path (TypedNode-F.Action n es) s = value s (not (list_any (λ m. m == n) sight.special) && list_all argument es)
  node_path (TypedNode-F.Event n es) s = value s (all_plain es)
  node_path (TypedNode-F.Sequence es) s = value s (all_plain es)
  node_path (TypedNode-F.Dictionary ps) s = value s (list_all (λ p. plain p.key && plain p.value) ps)
  node_path TypedNode-F.Default s = value s true
  node_path (TypedNode-F.Context es) s = value s (all_plain es)
  node_path TypedNode-F.ContextCurrent s = value s true
  node_path (TypedNode-F.Tenths n) s = value s true

  abbrev pub step_path : TypedSuffixNode-F Node Going Pair Path Path Going → Going
  step_path (TypedSuffixNode-F.Field n) = going_field
  step_path (TypedSuffixNode-F.Item e) = going_index e
  step_path (TypedSuffixNode-F.Key e) = going_index e
  step_path (TypedSuffixNode-F.Method m es) = going_method m es

  abbrev pub expr_path : TypedExpr-F Node Going Pair Path Path Going → Path
  expr_path e = e.node e.shape

  abbrev pub entry_path : TypedEntry-F Node Going Pair Path Path Going → Pair
  entry_path e = record { key = e.key; value = e.value }

  abbrev pub link_path : TypedLink-F Node Going Pair Path Path Going → Path
  link_path l = l.operand

  abbrev pub suffix_path : TypedSuffix-F Node Going Pair Path Path Going → Going
  suffix_path u = u.node

  abbrev pub path_of : TypedExpr → Path
  path_of = fold-TypedExpr Node Going Pair Path Path Going node_path step_path entry_path expr_path link_path suffix_path

  abbrev pub going_of : TypedSuffix → Going
  going_of = fold-TypedSuffix Node Going Pair Path Path Going node_path step_path entry_path expr_path link_path suffix_path
