-- Statements that have parts that are statements, by what their parts do.
use Rattle.std.proofs.Common.{◌≡◌, ℕ, ◌<◌, true, false, List, length, map, Option, Some, None, Result, Ok, Err, refl, sym, ap, subst, ◌∙◌, arith}
use Rattle.std.specs.Prelude.{Bool, option_map}
use Rattle.epl_values.specs.declared.value.Value.{Value}
use Rattle.typed_program.specs.declared.expression.TypedExpr.{TypedExpr}
use Rattle.typed_program.specs.declared.program.Program.{Program}
use Rattle.typed_program.specs.declared.statement.Stmt.{Stmt}
use Rattle.typed_program.specs.declared.statement.Stmt.TheVariants as tree
use Rattle.action_host.specs.Told.{Told}
use Rattle.body_meaning.specs.declared.run.Flow.{Flow}
use Rattle.body_meaning.specs.declared.run.Flow.TheVariants.{Next}
use Rattle.body_meaning.specs.declared.run.Frame.{Frame}
use Rattle.body_meaning.specs.Acts.{enter}
use Rattle.body_meaning.specs.Runs.{M, ◌>>=◌, ◌>>◌, charge, choose}
use Rattle.body_meaning.specs.Statements.{row, otherwise, while_of, for_of, each, elements_of}
use Rattle.body_meaning.specs.Values.{truth_of}
use Rattle.walk_rules.specs.declared.stop.Stop.{Stop}
use Rattle.walk_rules.specs.Ran.{Walks}
use Rattle.walk_rules.proofs.StatementForms.{block_stmt_is, if_stmt_is, while_stmt_is, for_stmt_is}
use Rattle.path_bases.specs.Tells.{Tells}
use Rattle.walk_laws.proofs.Stating.{tells_for, tells_for_err}
use Rattle.walk_laws.proofs.Telling.{tells_walks, tells_as, tells_pure, tells_bind, tells_bind_err, tells_seq, tells_seq_err}
use Rattle.expr_walker.specs.Means.{value_by}
use Rattle.stmt_walker.specs.Means.{stmt_by}

-- a place before the end of a list whose length is known
pub inside : {A : Type 0} (xs : List A) (i count : ℕ) → i < count → length xs ≡ count → i < length xs
inside xs i count before long = omega arith

tells_true : {b : Bool} {m : M Flow} (n : M Flow) {t t1 : Told} {f f1 : Frame} {r : Result Flow Stop} → true ≡ b → Tells m t f t1 f1 r → Tells (choose b m n) t f t1 f1 r
tells_true {m = m} n {t} {t1} {f} {f1} {r} is a = subst (λ b. Tells (choose b m n) t f t1 f1 r) is a

tells_false : {b : Bool} (m : M Flow) {n : M Flow} {t t1 : Told} {f f1 : Frame} {r : Result Flow Stop} → false ≡ b → Tells n t f t1 f1 r → Tells (choose b m n) t f t1 f1 r
tells_false m {n} {t} {t1} {f} {f1} {r} is a = subst (λ b. Tells (choose b m n) t f t1 f1 r) is a

module _ (program : Program) (depth : ℕ) (s : Stmt) where
  -- statements in a row
  pub block_is : (parts seen : List Stmt) → s ≡ tree.Block parts → seen ≡ parts → stmt_by program depth s ≡ row (map (stmt_by program depth) seen)
  block_is parts seen is same = ap (stmt_by program depth) is ∙ block_stmt_is program.types program.sites (enter program depth) parts ∙ ap (λ ps. row (map (stmt_by program depth) ps)) (sym same)

  while_is : (test : TypedExpr) (parts seen : List Stmt) → s ≡ tree.While test parts → seen ≡ parts → stmt_by program depth s ≡ (charge 1 >> while_of (value_by program depth test) (row (map (stmt_by program depth) seen)))
  while_is test parts seen is same = ap (stmt_by program depth) is ∙ while_stmt_is program.types program.sites (enter program depth) test parts ∙ ap (λ ps. charge 1 >> while_of (value_by program depth test) (row (map (stmt_by program depth) ps))) (sym same)

  for_is : (n : ℕ) (items : TypedExpr) (parts seen : List Stmt) → s ≡ tree.For n items parts → seen ≡ parts → stmt_by program depth s ≡ (charge 1 >> for_of n (value_by program depth items) (row (map (stmt_by program depth) seen)))
  for_is n items parts seen is same = ap (stmt_by program depth) is ∙ for_stmt_is program.types program.sites (enter program depth) n items parts ∙ ap (λ ps. charge 1 >> for_of n (value_by program depth items) (row (map (stmt_by program depth) ps))) (sym same)

  module _ (test : TypedExpr) (part : Stmt) (other : Option Stmt) (is : s ≡ tree.If test part other) where
    -- the part that a test chooses
    chosen : Value → M Flow
    chosen v = choose (truth_of v) (stmt_by program depth part) (otherwise program.types program.sites (enter program depth) (option_map (stmt_by program depth) other))

    if_is : stmt_by program depth s ≡ (charge 1 >> (value_by program depth test >>= chosen))
    unfolding chosen
    if_is = ap (stmt_by program depth) is ∙ if_stmt_is program.types program.sites (enter program depth) test part other

    -- an `if` that isn't paid
    pub if_unpaid : {stop : Stop} {t t1 : Told} {f f1 : Frame} → Walks (charge 1) t f t1 f1 (Err stop) → Tells (stmt_by program depth s) t f t1 f1 (Err stop)
    if_unpaid unpaid = tells_as if_is (tells_seq_err _ (tells_walks unpaid))

    -- where its test stops
    pub if_untested : {stop : Stop} {t t1 t2 : Told} {f f1 f2 : Frame} → Walks (charge 1) t f t1 f1 (Ok tt) → Tells (value_by program depth test) t1 f1 t2 f2 (Err stop) → Tells (stmt_by program depth s) t f t2 f2 (Err stop)
    if_untested paid stopped = tells_as if_is (tells_seq (tells_walks paid) (tells_bind_err chosen stopped))

    module _ {v : Value} {t t1 t2 t3 : Told} {f f1 f2 f3 : Frame} {r : Result Flow Stop} (paid : Walks (charge 1) t f t1 f1 (Ok tt)) (tested : Tells (value_by program depth test) t1 f1 t2 f2 (Ok v)) where
      behind_test : Tells (chosen v) t2 f2 t3 f3 r → Tells (stmt_by program depth s) t f t3 f3 r
      behind_test a = tells_as if_is (tells_seq (tells_walks paid) (tells_bind chosen tested a))

      -- where the test holds
      pub if_holds : (seen : Stmt) → seen ≡ part → true ≡ truth_of v → Tells (stmt_by program depth seen) t2 f2 t3 f3 r → Tells (stmt_by program depth s) t f t3 f3 r
      unfolding chosen
      if_holds seen same holds a = behind_test (tells_true _ holds (tells_as (ap (stmt_by program depth) (sym same)) a))

      -- where it doesn't, and there is another part
      pub if_other : (o seen : Stmt) → other ≡ Some o → seen ≡ o → false ≡ truth_of v → Tells (stmt_by program depth seen) t2 f2 t3 f3 r → Tells (stmt_by program depth s) t f t3 f3 r
      unfolding chosen
      if_other o seen there same fails a = behind_test (tells_false _ fails (tells_as (ap (λ x. otherwise program.types program.sites (enter program depth) (option_map (stmt_by program depth) x)) there ∙ ap (stmt_by program depth) (sym same)) a))

    -- where it doesn't, and there is none
    pub if_none : {v : Value} {t t1 t2 : Told} {f f1 f2 : Frame} → Walks (charge 1) t f t1 f1 (Ok tt) → Tells (value_by program depth test) t1 f1 t2 f2 (Ok v) → other ≡ None → false ≡ truth_of v → Tells (stmt_by program depth s) t f t2 f2 (Ok Next)
    unfolding chosen
    if_none paid tested there fails = tells_as if_is (tells_seq (tells_walks paid) (tells_bind chosen tested (tells_false _ fails (tells_as (ap (λ x. otherwise program.types program.sites (enter program depth) (option_map (stmt_by program depth) x)) there) (tells_pure Next _ _)))))

  module _ (test : TypedExpr) (parts seen : List Stmt) (is : s ≡ tree.While test parts) (same : seen ≡ parts) where
    -- a `while` that isn't paid
    pub while_unpaid : {stop : Stop} {t t1 : Told} {f f1 : Frame} → Walks (charge 1) t f t1 f1 (Err stop) → Tells (stmt_by program depth s) t f t1 f1 (Err stop)
    while_unpaid unpaid = tells_as (while_is test parts seen is same) (tells_seq_err _ (tells_walks unpaid))

    -- its turns
    pub while_turns : {t t1 t2 : Told} {f f1 f2 : Frame} {r : Result Flow Stop} → Walks (charge 1) t f t1 f1 (Ok tt) → Tells (while_of (value_by program depth test) (row (map (stmt_by program depth) seen))) t1 f1 t2 f2 r → Tells (stmt_by program depth s) t f t2 f2 r
    while_turns paid a = tells_as (while_is test parts seen is same) (tells_seq (tells_walks paid) a)

  -- a `for` that isn't paid
  pub for_unpaid : (n : ℕ) (items : TypedExpr) (parts : List Stmt) → s ≡ tree.For n items parts → {stop : Stop} {t t1 : Told} {f f1 : Frame} → Walks (charge 1) t f t1 f1 (Err stop) → Tells (stmt_by program depth s) t f t1 f1 (Err stop)
  for_unpaid n items parts is unpaid = tells_as (for_is n items parts parts is refl) (tells_seq_err _ (tells_walks unpaid))

  -- where its sequence stops
  pub for_itemless : (n : ℕ) (items : TypedExpr) (parts : List Stmt) → s ≡ tree.For n items parts → {stop : Stop} {t t1 t2 : Told} {f f1 f2 : Frame} → Walks (charge 1) t f t1 f1 (Ok tt) → Tells (elements_of (value_by program depth items)) t1 f1 t2 f2 (Err stop) → Tells (stmt_by program depth s) t f t2 f2 (Err stop)
  for_itemless n items parts is paid stopped = tells_as (for_is n items parts parts is refl) (tells_seq (tells_walks paid) (tells_for_err n _ _ stopped))

  -- its turns
  pub for_turns : (n : ℕ) (items : TypedExpr) (parts seen : List Stmt) → s ≡ tree.For n items parts → seen ≡ parts → {vs : List Value} {t t1 t2 t3 : Told} {f f1 f2 f3 : Frame} {r : Result Flow Stop} → Walks (charge 1) t f t1 f1 (Ok tt) → Tells (elements_of (value_by program depth items)) t1 f1 t2 f2 (Ok vs) → Tells (each n vs (row (map (stmt_by program depth) seen))) t2 f2 t3 f3 r → Tells (stmt_by program depth s) t f t3 f3 r
  for_turns n items parts seen is same paid found a = tells_as (for_is n items parts seen is same) (tells_seq (tells_walks paid) (tells_for n _ _ found a))
