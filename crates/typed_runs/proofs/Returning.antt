-- A body that ends with a `return` returns: one induction over statements.
use Rattle.std.proofs.Common.{◌≡◌, ◌&&◌, ◌∷◌}
use Rattle.typed_runs.proofs.Common.{ℕ, Bool, true, false, List, [], map, Option, Some, None, refl, sym, ap, subst, ◌∙◌, EventShape, Site, TypedExpr, Stmt, Stmt-F, map-Stmt, roll-Stmt, fold-roll-Stmt, ind-Stmt, Names, Visible, Reading, Ending, ends_with_return, Flow, Next, Broke, Continued, Returned, Died, M, truth_of, Calls, row, stmt_meant, body_of}
use Rattle.typed_program.specs.declared.statement.Stmt.{fold-Stmt}
use Rattle.typed_program.specs.declared.statement.Stmt.TheOpen as stmt
use Rattle.typed_program.specs.Courses.{row_of, is_plain, stmt_reading, reading_of, runs, last_ends, ending_step}
use Rattle.body_meaning.specs.Statements.{stmt_of}
use Rattle.typed_runs.proofs.Sound.{left, right}
use Rattle.typed_runs.proofs.Flowing.{Gives, Stays, IsEnd, IsReturn, Flows, gives_pure, gives_halt, gives_bind, gives_after, gives_seq, gives_choose, gives_as, gives_both, follow_so, follow_ends, stop_ends, returns_so, while_stays, for_stays, assign_stays}

module _ (names : Names) (read : List Site) (special : List ℕ) (from : ℕ) (types : List EventShape) (sites : List Site) (call : Calls) where
  -- how a statement is read
  abbrev reading : Stmt → Reading
  reading = reading_of names read special from

  -- how it ends
  abbrev ending : Stmt → Ending
  ending = fold-Stmt Ending ending_step

  -- what it means
  abbrev meant : Stmt → M Flow
  meant = stmt_of types sites call

  -- what is claimed of a statement
  abbrev ForStmt : Stmt → Type 0
  ForStmt s = Flows (reading s) (ending s) (meant s)

  -- a statement with what is claimed of it
  abbrev Held : Type 0
  Held = (s : Stmt) × ForStmt s

  -- a row of statements breaks where its loop allows it
  row_stays : (parts : List Held) (visible : List Visible) (looped : Bool) → (row_of (map reading (map (λ e. e.0) parts)) visible looped).lawful ≡ true → Gives (Stays looped) (row (map meant (map (λ e. e.0) parts)))
  row_stays [] visible looped h = gives_pure Next tt
  row_stays (s ∷ parts) visible looped h =
      gives_bind _ (s.1.stays visible looped (left (reading s.0 visible looped).lawful (row_of (map reading (map (λ e. e.0) parts)) (reading s.0 visible looped).visible looped).lawful h))
      (λ flow q. follow_so _ flow (row_stays parts (reading s.0 visible looped).visible looped (right (reading s.0 visible looped).lawful (row_of (map reading (map (λ e. e.0) parts)) (reading s.0 visible looped).visible looped).lawful h)) q)

  -- a row whose last statement isn't gone on behind
  row_ends : (parts : List Held) → last_ends (map ending (map (λ e. e.0) parts)) ≡ true → Gives IsEnd (row (map meant (map (λ e. e.0) parts)))
  row_ends [] h = cc
  row_ends (s ∷ []) h = gives_bind _ (s.1.ends_last h) (λ flow q. stop_ends _ flow q)
  row_ends (s ∷ t ∷ parts) h = gives_after _ _ (λ flow. follow_ends _ flow (row_ends (t ∷ parts) h))

  -- a statement that goes on, and isn't an end
  goes_on : (r : Reading) (m : M Flow) → ((looped : Bool) → Gives (Stays looped) m) → Flows r (record { last = false; part = false }) m
  goes_on r m h = record { stays = λ visible looped k. h looped; ends_last = λ k. cc; ends_part = λ k. cc }

  -- a `return`
  return_flows : (r : Reading) (o : Option TypedExpr) → Flows r (record { last = true; part = true }) (stmt_meant types sites call (stmt.Return o))
  return_flows r None = record { stays = λ visible looped k. gives_seq _ (gives_pure (Returned None) tt); ends_last = λ k. gives_seq _ (gives_pure (Returned None) tt); ends_part = λ k. gives_seq _ (gives_pure (Returned None) tt) }
  return_flows r (Some e) = record { stays = λ visible looped k. gives_seq _ (gives_after _ _ (λ v. gives_pure (Returned (Some v)) tt)); ends_last = λ k. gives_seq _ (gives_after _ _ (λ v. gives_pure (Returned (Some v)) tt)); ends_part = λ k. gives_seq _ (gives_after _ _ (λ v. gives_pure (Returned (Some v)) tt)) }

  -- the statements in a statement
  abbrev trees : Stmt-F Held → Stmt-F Stmt
  trees y = map-Stmt Held Stmt (λ e. e.0) y

  -- how they are read
  abbrev read_parts : Stmt-F Stmt → Stmt-F Reading
  read_parts x = map-Stmt Stmt Reading reading x

  -- how they end
  abbrev end_parts : Stmt-F Stmt → Stmt-F Ending
  end_parts x = map-Stmt Stmt Ending ending x

  -- what they mean
  abbrev meant_parts : Stmt-F Stmt → Stmt-F (M Flow)
  meant_parts x = map-Stmt Stmt (M Flow) meant x

  -- a statement whose parts are as claimed
  stmt_at : (y : Stmt-F Held) → Flows (stmt_reading names read special from (read_parts (trees y))) (ending_step (end_parts (trees y))) (stmt_meant types sites call (meant_parts (trees y)))
  stmt_at (stmt.Block parts) = record { stays = λ visible looped h. row_stays parts visible looped h; ends_last = λ h. cc; ends_part = λ h. row_ends parts h }
  stmt_at (stmt.On site) = goes_on _ _ (λ looped. gives_seq _ (gives_seq _ (gives_pure Next tt)))
  stmt_at (stmt.Declare n s) = goes_on _ _ (λ looped. gives_seq _ (gives_seq _ (gives_pure Next tt)))
  stmt_at (stmt.DeclareAs n e) = goes_on _ _ (λ looped. gives_seq _ (gives_after _ _ (λ v. gives_seq _ (gives_pure Next tt))))
  stmt_at (stmt.DeclareOn n site) = goes_on _ _ (λ looped. gives_seq _ (gives_after _ _ (λ v. gives_seq _ (gives_pure Next tt))))
  stmt_at (stmt.Assign place e) = goes_on _ _ (λ looped. gives_seq _ (assign_stays looped place _ _))
  stmt_at (stmt.AssignOn place site) = goes_on _ _ (λ looped. gives_seq _ (assign_stays looped place _ _))
  stmt_at (stmt.If test part None) = record {
    stays = λ visible looped h. gives_seq _ (gives_after _ _ (λ v. gives_choose (truth_of v) (part.1.stays visible looped (right (is_plain names read special from visible test) (reading part.0 visible looped).lawful (left (is_plain names read special from visible test && (reading part.0 visible looped).lawful) true h))) (gives_pure Next tt)));
    ends_last = λ h. cc;
    ends_part = λ h. cc;
  }
  stmt_at (stmt.If test part (Some other)) =
      let ends : ((ending part.0).part && (ending other.0).part) ≡ true → Gives IsEnd (stmt_meant types sites call (stmt.If test (meant part.0) (Some (meant other.0)))) = λ h. gives_seq _ (gives_after _ _ (λ v. gives_choose (truth_of v) (part.1.ends_part (left (ending part.0).part (ending other.0).part h)) (other.1.ends_part (right (ending part.0).part (ending other.0).part h)))) in
      record {
        stays = λ visible looped h.
            let front = left (is_plain names read special from visible test && (reading part.0 visible looped).lawful) (reading other.0 visible looped).lawful h in
            gives_seq _ (gives_after _ _ (λ v. gives_choose (truth_of v) (part.1.stays visible looped (right (is_plain names read special from visible test) (reading part.0 visible looped).lawful front)) (other.1.stays visible looped (right (is_plain names read special from visible test && (reading part.0 visible looped).lawful) (reading other.0 visible looped).lawful h))));
        ends_last = ends;
        ends_part = ends;
      }
  stmt_at (stmt.While test parts) = goes_on _ _ (λ looped. gives_seq _ (while_stays looped _ _))
  stmt_at (stmt.For n items parts) = goes_on _ _ (λ looped. gives_seq _ (for_stays looped n _ _))
  stmt_at stmt.Break = record { stays = λ visible looped h. gives_seq _ (gives_pure Broke h); ends_last = λ h. cc; ends_part = λ h. cc }
  stmt_at stmt.Continue = record { stays = λ visible looped h. gives_seq _ (gives_pure Continued h); ends_last = λ h. cc; ends_part = λ h. cc }
  stmt_at (stmt.Return e) = return_flows _ e
  stmt_at stmt.Die = goes_on _ _ (λ looped. gives_seq _ (gives_halt Died))
  stmt_at (stmt.Print text) = goes_on _ _ (λ looped. gives_seq _ (gives_seq _ (gives_pure Next tt)))
  stmt_at (stmt.Log text level) = goes_on _ _ (λ looped. gives_seq _ (gives_seq _ (gives_pure Next tt)))
  stmt_at (stmt.Route e) = goes_on _ _ (λ looped. gives_seq _ (gives_seq _ (gives_pure Next tt)))
  stmt_at (stmt.Send e to) = goes_on _ _ (λ looped. gives_seq _ (gives_seq _ (gives_pure Next tt)))
  stmt_at (stmt.Spawn n es to) = goes_on _ _ (λ looped. gives_seq _ (gives_seq _ (gives_pure Next tt)))
  stmt_at (stmt.Subscribe channel) = goes_on _ _ (λ looped. gives_seq _ (gives_seq _ (gives_pure Next tt)))
  stmt_at (stmt.Unsubscribe channel) = goes_on _ _ (λ looped. gives_seq _ (gives_seq _ (gives_pure Next tt)))
  stmt_at (stmt.Call e) = goes_on _ _ (λ looped. gives_seq _ (gives_seq _ (gives_pure Next tt)))

  -- the step of the induction
  stmt_case : (x : Stmt-F Stmt) (y : Stmt-F Held) → trees y ≡ x → ForStmt (roll-Stmt x)
  unfolding stmt_of
  stmt_case x y is = subst (λ (z : Stmt-F Stmt). ForStmt (roll-Stmt z)) is
      (subst (λ (m : M Flow). Flows (reading (roll-Stmt (trees y))) (ending (roll-Stmt (trees y))) m) (sym (fold-roll-Stmt (M Flow) (stmt_meant types sites call) (trees y)))
      (subst (λ (r : Reading). Flows r (ending (roll-Stmt (trees y))) (stmt_meant types sites call (meant_parts (trees y)))) (sym (fold-roll-Stmt Reading (stmt_reading names read special from) (trees y)))
      (subst (λ (e : Ending). Flows (stmt_reading names read special from (read_parts (trees y))) e (stmt_meant types sites call (meant_parts (trees y)))) (sym (fold-roll-Stmt Ending ending_step (trees y))) (stmt_at y))))

  -- each statement is as claimed
  stmt_flows : (s : Stmt) → ForStmt s
  stmt_flows = ind-Stmt ForStmt stmt_case

  -- a statement with that
  held : Stmt → Held
  held s = (s, stmt_flows s)

  -- the statements are the same
  same_rows : (body : List Stmt) → map (λ (e : Held). e.0) (map held body) ≡ body
  unfolding held
  same_rows [] = refl
  same_rows (s ∷ body) = ap (λ rest. s ∷ rest) (same_rows body)

  -- a body that is lawful and ends with a `return` returns
  pub body_returns : (body : List Stmt) (visible : List Visible) → runs names read special from body visible ≡ true → ends_with_return body ≡ true → Gives IsReturn (body_of types sites call body)
  body_returns body visible lawful ends =
      let parts = map held body in
      let so : (row_of (map reading (map (λ (e : Held). e.0) parts)) visible false).lawful ≡ true = ap (λ (b : List Stmt). (row_of (map reading b) visible false).lawful) (same_rows body) ∙ lawful in
      let last : last_ends (map ending (map (λ (e : Held). e.0) parts)) ≡ true = ap (λ (b : List Stmt). last_ends (map ending b)) (same_rows body) ∙ ends in
      subst (λ (b : List Stmt). Gives IsReturn (row (map meant b))) (same_rows body)
      (gives_as (λ flow q. returns_so flow q.0 q.1) (gives_both (row_stays parts visible false so) (row_ends parts last)))
