-- The body of an action and the sites that it makes keep the rules, and it ends with a `return` where the action has a result.
use Rattle.std.proofs.Common.{◌≡◌, ◌+◌, ◌≤◌, ◌==◌, ◌∷◌, ◌++◌, ◌||◌}
use Rattle.program_laws.proofs.Common.{ℕ, length, map, List, [], Some, Bool, true, false, not, is_some, Option, refl, ap, sym, ◌∙◌, slice_get, arith, AllByRecursion, list_any, Shape, Program, Site, Stmt, special_in, action_lawful, ActionHead, Table, is_callback, State, Around, row_read, After}
use Rattle.epl_tree.specs.declared.statement.Stmt.{Stmt as Tree}
use Rattle.typed_program.specs.Courses.{row_of, ends_with_return}
use Rattle.typed_program.specs.Rules.{params_from}
use Rattle.stmt_check.specs.Bodies.{action_named}
use Rattle.stmt_check.specs.Endings.{ends_with_return as tree_ends}
use Rattle.stmt_check.specs.Statements.{part_of}
use Rattle.program_laws.proofs.Lawful.Rules.{LawRules}
use Rattle.program_laws.proofs.Rules.Begins.{start_sees}
use Rattle.program_laws.proofs.Rules.Compounds.{rows_law}
use Rattle.program_laws.proofs.Rules.Endings.{body_ends}
use Rattle.program_laws.proofs.Rules.ParamNames.{ParamsApart}
use Rattle.program_laws.proofs.Rules.Parts.{PartKeeps}
use Rattle.program_laws.proofs.Rules.Sights.{Law, reading}
use Rattle.program_laws.proofs.Rules.Sites.{SitesKeep}
use Rattle.program_laws.proofs.Rules.Trees.{statement_keeps}
use Rattle.program_laws.proofs.Shapes.Bodies.{HeadsKnown, Acting, frame, start, start_before}
use Rattle.program_laws.proofs.Shapes.Frames.{Frame, Fits}
use Rattle.program_laws.proofs.Shapes.Lists.{both_true, get_behind}
use Rattle.program_laws.proofs.Shapes.Reading.{Fitting}
use Rattle.program_laws.proofs.Shapes.Rules.{Rules}

-- actions of other names than `onload` and `ondie` have other numbers
abbrev pub Apart : Program → Table → ℕ → Type 0
Apart program table monitor = (name : List ℕ) (head : ActionHead) → action_named table monitor name ≡ Some head → is_callback name ≡ false → list_any (λ m. m == head.number) (special_in program monitor) ≡ false

returns_so : (b c : Bool) → (b ≡ true → c ≡ true) → (not b || c) ≡ true
returns_so true c h = h refl
returns_so false c h = refl

all_keep : LawRules → Rules → (body : List Tree) → AllByRecursion PartKeeps (map part_of body)
all_keep rules shapes [] = tt
all_keep rules shapes (t ∷ body) = (statement_keeps rules shapes t, all_keep rules shapes body)

module _ (rules : LawRules) (shapes : Rules) (program : Program) (table : Table) (monitor : ℕ) (known : HeadsKnown program table monitor) (place : ℕ) (params : List Shape) (result : Option Shape) (acting : Acting program table monitor known place params result) where
  abbrev own : Frame
  own = frame program table monitor known place params result acting

  -- the action keeps the rules, and the sites that its body makes keep them by themselves
  pub record ActionKeeps (after : After State (List Stmt)) (earlier : List Site) : Type 0 where
    pub action : action_lawful program (record { monitor = monitor; params = params; result = result; locals = after.state.locals; body = after.part }) ≡ true
    pub sites : SitesKeep program (length earlier) (length after.state.sites)

  -- where the body has no fault, in a program that has what it makes
  pub action_keeps : (around : Around) → Fitting own around → around.looped ≡ false → Apart program around.table monitor → ParamsApart acting.head.params known.head.globals → (body : List Tree) (sites : List Site)
      → (row_read around (map part_of body) (start program table monitor known place params result acting sites)).faults ≡ []
      → ((i : ℕ) (x : Site) → length sites ≤ i → slice_get (row_read around (map part_of body) (start program table monitor known place params result acting sites)).part.state.sites i ≡ Some x → slice_get program.sites i ≡ Some x)
      → (is_some result ≡ true → tree_ends body ≡ true)
      → ActionKeeps (row_read around (map part_of body) (start program table monitor known place params result acting sites)).part sites
  action_keeps around fitting looped apart names body sites none finished ends =
      let begins : State = start program table monitor known place params result acting sites in
      let after : After State (List Stmt) = (row_read around (map part_of body) begins).part in
      let law : Law own around.table = record { low = 0; apart = apart } in
      let claims = rows_law own around fitting law {k = 0} (λ all. Unit {0}) (map part_of body) (all_keep rules shapes body) (λ name h. refl) (λ all. params_from 0 params) begins (λ all h. start_sees program table monitor known place params result acting names sites) in
      let fits : Fits own (params ++ after.state.locals) begins after.state = record { locals = (λ i x at. get_behind params after.state.locals i ∙ at); sites = (λ i x from at. let z : 0 + i ≡ i = omega arith in ap (slice_get program.sites) z ∙ finished i x from at) } in
      let before = start_before program table monitor known place params result acting after.state.locals sites in
      let held = claims.claim.holds (params ++ after.state.locals) tt none fits before in
      record {
        action = both_true
            (ap (λ (b : Bool). (row_of (map (reading own 0 (params ++ after.state.locals)) after.part) (params_from 0 params) b).lawful) (sym looped) ∙ held.part.lawful)
            (returns_so (is_some result) (ends_with_return after.part) (λ some. body_ends body around begins ∙ ends some));
        sites = λ i x from to at. claims.sites (params ++ after.state.locals) tt none fits before i x (omega arith) (omega arith) at;
      }
