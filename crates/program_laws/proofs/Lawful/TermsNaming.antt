-- What paths from bound names, and sums that begin with one, name in the text.
use Rattle.std.proofs.Common.{◌≡◌, ◌||◌, ◌∷◌}
use Rattle.program_laws.proofs.Common.{ℕ, Bool, true, false, List, [], map, refl, sym, ap, ◌∙◌, true≢false, list_all, and_parts, bytes_eq-Decides, Entry, Expr, ExprNode, ExprNode-F, map-ExprNode, fold-ExprNode, Link, out-Link, fold_out-Link, Suffix, out-Suffix, fold_out-Suffix, SuffixNode, SuffixNode-F, map-SuffixNode, fold-SuffixNode, out-SuffixNode, fold_out-SuffixNode, Layer, layer_of, is_field_layer, expr_names, expr_node, suffix_names, link_names, entry_names, any_of}
use Rattle.epl_tree.specs.declared.expression.ExprNode.TheOpen as node
use Rattle.listener_check.specs.Values.{is_field}
use Rattle.stmt_check.specs.Captures.{suffix_node, entry_step, expr_step, link_step, suffix_step}
use Rattle.stmt_check.specs.Captures.{Names as Naming}
use Rattle.program_laws.proofs.Lawful.TermsBrought.{or_case}
use Rattle.program_laws.proofs.Terms.Sums.{names_at}

abbrev node_names : ExprNode → Naming
node_names = fold-ExprNode Naming Naming Naming Naming Naming Naming expr_node suffix_node entry_step expr_step link_step suffix_step

abbrev step_names : SuffixNode → Naming
step_names = fold-SuffixNode Naming Naming Naming Naming Naming Naming expr_node suffix_node entry_step expr_step link_step suffix_step

abbrev named_in : Layer → ExprNode-F Naming Naming Naming Naming Naming Naming
named_in x = map-ExprNode ExprNode SuffixNode Entry Expr Link Suffix Naming Naming Naming Naming Naming Naming node_names step_names entry_names expr_names link_names suffix_names x

abbrev StepLayer : Type 0
StepLayer = SuffixNode-F ExprNode SuffixNode Entry Expr Link Suffix

abbrev steps_named : StepLayer → SuffixNode-F Naming Naming Naming Naming Naming Naming
steps_named x = map-SuffixNode ExprNode SuffixNode Entry Expr Link Suffix Naming Naming Naming Naming Naming Naming node_names step_names entry_names expr_names link_names suffix_names x

step_names_at : (s : Suffix) (d : StepLayer) → out-SuffixNode (out-Suffix s).node ≡ d → suffix_names s ≡ suffix_node (steps_named d)
step_names_at s d is =
    fold_out-Suffix Naming Naming Naming Naming Naming Naming expr_node suffix_node entry_step expr_step link_step suffix_step s
    ∙ fold_out-SuffixNode Naming Naming Naming Naming Naming Naming expr_node suffix_node entry_step expr_step link_step suffix_step (out-Suffix s).node
    ∙ ap (λ (x : StepLayer). suffix_node (steps_named x)) is

-- a field names none
field_layer_unnamed : (s : Suffix) (d : StepLayer) → out-SuffixNode (out-Suffix s).node ≡ d → is_field_layer d ≡ true → (name : List ℕ) → suffix_names s name ≡ false
field_layer_unnamed s (node.Field field) is h name = ap (λ (f : Naming). f name) (step_names_at s (node.Field field) is)
field_layer_unnamed s (node.Method text arguments) is h name = absurd (true≢false (sym h))
field_layer_unnamed s (node.Index e) is h name = absurd (true≢false (sym h))

field_unnamed : (s : Suffix) → is_field s ≡ true → (name : List ℕ) → suffix_names s name ≡ false
unfolding is_field
field_unnamed s h name = field_layer_unnamed s (out-SuffixNode (out-Suffix s).node) refl h name

fields_unnamed : (us : List Suffix) → list_all is_field us ≡ true → (name : List ℕ) → any_of (map suffix_names us) name ≡ false
fields_unnamed [] h name = refl
fields_unnamed (s ∷ us) h name =
    let p = and_parts (is_field s) (list_all is_field us) h in
    ap (λ (b : Bool). b || any_of (map suffix_names us) name) (field_unnamed s p.0 name) ∙ fields_unnamed us p.1 name

-- a path names its root alone
pub path_names : (e first : Expr) (us : List Suffix) (root : List ℕ) → layer_of e ≡ node.Postfix first us → layer_of first ≡ node.Name root → list_all is_field us ≡ true → (name : List ℕ) → expr_names e name ≡ true → root ≡ name
path_names e first us root is root_is fields name h =
    let split : (expr_names first name || any_of (map suffix_names us) name) ≡ true = sym (ap (λ (f : Naming). f name) (names_at e (node.Postfix first us) is)) ∙ h in
    or_case (root ≡ name) (expr_names first name) (any_of (map suffix_names us) name) split
    (λ here. (bytes_eq-Decides root name).0 (sym (ap (λ (f : Naming). f name) (names_at first (node.Name root) root_is)) ∙ here))
    (λ there. absurd (true≢false (sym there ∙ fields_unnamed us fields name)))

link_named : (link : Link) → link_names link ≡ expr_names (out-Link link).operand
link_named link = fold_out-Link Naming Naming Naming Naming Naming Naming expr_node suffix_node entry_step expr_step link_step suffix_step link

-- a sum of two names what its operands name
pub sum_names : (e first : Expr) (link : Link) → layer_of e ≡ node.Sum first (link ∷ []) → (name : List ℕ) → expr_names e name ≡ (expr_names first name || (expr_names (out-Link link).operand name || false))
sum_names e first link is name =
    ap (λ (f : Naming). f name) (names_at e (node.Sum first (link ∷ [])) is) ∙ ap (λ (f : Naming). expr_names first name || (f name || false)) (link_named link)
