-- A method keeps the rules behind a value, where its arguments do; one that changes its object stands where that may be changed.
use Rattle.std.proofs.Common.{◌≡◌, ◌||◌}
use Rattle.program_laws.proofs.Common.{ℕ, not, Bool, true, false, List, [], map, Option, Some, None, is_some, refl, sym, ap, subst, ◌∙◌, true≢false, list_all, AllByRecursion, and_from, Spot, Shape, Method, TypedExpr, Signature, Sight, may_change, end_of, path_of, Arguments, Called, MethodCall, StepKind, Walk, Demand, arguments_found, count_code, no_arguments, is_change, unknown_call, called_by, called_on, called_of, method_reach, Part, change_code, method_kind, called_found, method_found}
use Rattle.typed_program.specs.declared.expression.TypedNode.TheOpen as typed
use Rattle.typed_program.specs.declared.expression.TypedSuffixNode.TheVariants as suffix
use Rattle.typed_program.specs.Methods.{signature}
use Rattle.typed_program.specs.Paths.{plain, going_method}
use Rattle.typed_program.specs.Paths.{Root as Begins, changes as changing}
use Rattle.expr_rules.specs.declared.asked.Paths.TheVariants as paths
use Rattle.expr_rules.specs.declared.steps.StepKind.TheVariants as step
use Rattle.expr_rules.specs.Methods.{changes, method_named}
use Rattle.expr_rules.specs.Postfix.{method_stands}
use Rattle.program_laws.proofs.Exprs.Sure.{Sure, sure_then}
use Rattle.program_laws.proofs.Exprs.Methods.{row_from, signature_same}
use Rattle.program_laws.proofs.Lawful.Calls.{ArgumentsKept, arguments_kept, lower_second}
use Rattle.program_laws.proofs.Lawful.Operands.{PartKept}
use Rattle.program_laws.proofs.Lawful.Paths.{step_going, stepped}
use Rattle.program_laws.proofs.Lawful.Standing.{is_near}
use Rattle.program_laws.proofs.Lawful.Steps.{Walked, Next, StepKept, Onward, gone, onward_as, reached_kept, changed_well, changing_same}

where_changed : (b c : Bool) → (b ≡ true → c ≡ true) → (not b || c) ≡ true
where_changed true c h = h refl
where_changed false c h = refl

module _ (sight : Sight) where
  method_going : (m : Method) (items : List TypedExpr) → step_going sight (suffix.Method m items) ≡ going_method m (map (path_of sight) items)
  method_going m items = stepped sight (typed.Method m items) (suffix.Method m items) (suffix.rolls-Method m items)

  module _ (spot : Spot) (demand : Demand) (from : Option Begins) (walk : Walk) (w : Walked sight from walk) (near : demand.changed ≡ true → is_near (end_of from (gone sight walk.suffixes)) ≡ true) where
    method_on : (m : Method) (items : List TypedExpr) → list_all plain (map (path_of sight) items) ≡ true → (changing m ≡ true → may_change (end_of from (gone sight walk.suffixes)) ≡ true) → Onward sight demand None (suffix.Method m items) (end_of from (gone sight walk.suffixes))
    method_on m items h may = onward_as sight demand None (suffix.Method m items) (end_of from (gone sight walk.suffixes)) (going_method m (map (path_of sight) items)) (method_going m items)
        (and_from (list_all plain (map (path_of sight) items)) (not (changing m) || may_change (end_of from (gone sight walk.suffixes))) h (where_changed (changing m) (may_change (end_of from (gone sight walk.suffixes))) may))
        tt (λ changed. refl)

    call_on : (kind : StepKind) (called : Called) (wants : List (Option Shape)) (parts : List Part) → AllByRecursion (PartKept sight) parts → ((a : Arguments) → (method_reach called walk.root a).own ≡ None → changing called.method ≡ true → may_change (end_of from (gone sight walk.suffixes)) ≡ true) → Sure (Next sight demand from kind walk) (called_found (record { called = called; start = no_arguments paths.Refused wants }) parts spot demand walk)
    unfolding method_stands
    call_on kind called wants parts all may =
        sure_then (ArgumentsKept sight paths.Refused) (Next sight demand from kind walk) (arguments_found (no_arguments paths.Refused wants) parts) (method_stands spot demand walk called)
        (arguments_kept sight paths.Refused wants parts all)
        (λ a k. reached_kept sight spot demand from kind None walk (method_reach called walk.root a) w (λ some. absurd (true≢false (sym some)))
        (λ none. method_on called.method a.items k.items_kept (may a none)))

    unknown_on : (kind : StepKind) (own : Option ℕ) (parts : List Part) → AllByRecursion (PartKept sight) parts → Sure (Next sight demand from kind walk) (called_found (unknown_call own) parts spot demand walk)
    unknown_on kind own parts all = call_on kind (unknown_call own).called [] parts all (λ a none is. absurd (true≢false (sym is)))

    signed_on : (m : Method) (o : Option Signature) (parts : List Part) → (method_kind (changes m) ≡ step.Change → is_some walk.root ≡ true → demand.changed ≡ true) → AllByRecursion (PartKept sight) parts → Sure (Next sight demand from (method_kind (changes m)) walk) (called_found (called_by (row_from m o)) parts spot demand walk)
    signed_on m None parts change all = unknown_on (method_kind (changes m)) (Some 7) parts all
    signed_on m (Some row) parts change all = call_on (method_kind (changes m)) (called_by (row_from m (Some row))).called (called_by (row_from m (Some row))).start.wants parts all (λ a none is.
        let changed : changes m ≡ true = sym (changing_same m) ∙ is in
        changed_well walk.root (end_of from (gone sight walk.suffixes)) w.same
        (subst (λ (b : Bool). change_code b walk.root ≡ None) changed (lower_second (count_code a) (change_code (changes m) walk.root) none))
        (λ some. near (change (ap method_kind changed) some)))

    named_on : (o : Option Method) (s : Shape) (parts : List Part) → (method_kind (is_change o) ≡ step.Change → is_some walk.root ≡ true → demand.changed ≡ true) → AllByRecursion (PartKept sight) parts → Sure (Next sight demand from (method_kind (is_change o)) walk) (called_found (called_on s o) parts spot demand walk)
    named_on None s parts change all = unknown_on (method_kind false) (Some 7) parts all
    named_on (Some m) s parts change all =
        subst (λ (c : Option MethodCall). Sure (Next sight demand from (method_kind (changes m)) walk) (called_found (called_by c) parts spot demand walk)) (sym (signature_same s m)) (signed_on m (signature s m) parts change all)

    called_on_shape : (o : Option Method) (s : Option Shape) (parts : List Part) → (method_kind (is_change o) ≡ step.Change → is_some walk.root ≡ true → demand.changed ≡ true) → AllByRecursion (PartKept sight) parts → Sure (Next sight demand from (method_kind (is_change o)) walk) (called_found (called_of s o) parts spot demand walk)
    called_on_shape o None parts change all = unknown_on (method_kind (is_change o)) None parts all
    called_on_shape o (Some s) parts change all = named_on o s parts change all

  -- a method by its name
  pub method_kept : (name : List ℕ) (parts : List Part) → AllByRecursion (PartKept sight) parts → StepKept sight (record { kind = method_kind (is_change (method_named name)); found = method_found name parts })
  method_kept name parts all = record { at_walk = λ spot demand from walk w near change. called_on_shape spot demand from walk w near (method_named name) walk.shape parts change all }
