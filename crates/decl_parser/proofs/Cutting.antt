-- How far the pieces go, and that pieces up to a place outside the monitors are declarations.
use Rattle.std.proofs.Common.{◌≡◌, ℕ, zero, suc, ◌+◌, ◌<◌, ◌≤◌, List, [], ◌∷◌, ◌++◌, length, Option, Some, None, refl, sym, ap, ◌∙◌, subst, ⊎_elim, inl, inr, arith}
use Rattle.grammar_forms.specs.Rule.{Many}
use Rattle.grammar_forms.proofs.Longest.{reads_longest}
use Rattle.epl_lexer.specs.declared.token.Token.{Token}
use Rattle.epl_tree.specs.declared.name.Name.{Name}
use Rattle.epl_tree.specs.declared.statement.Stmt.{Stmt}
use Rattle.epl_tree.specs.declared.types.TypeExpr.{TypeExpr}
use Rattle.epl_tree.specs.declared.unit.Declaration.{Declaration}
use Rattle.epl_tree.specs.declared.unit.Declaration.TheVariants as declaration
use Rattle.epl_tree.specs.declared.unit.Member.{Member}
use Rattle.epl_tree.specs.declared.unit.Member.TheVariants as member
use Rattle.epl_tree.specs.declared.unit.Param.{Param}
use Rattle.epl_tree.specs.declared.unit.Unit.{Unit as ProgramFile}
use Rattle.span_text.specs.declared.spot.Spot.{Spot}
use Rattle.primary_parser.specs.Tokens.{row_of, spot_at}
use Rattle.decl_parser.specs.declared.region.Region.{Region}
use Rattle.decl_parser.specs.declared.region.Region.TheVariants as region
use Rattle.stmt_parser.specs.Statements.{IsStmt}
use Rattle.decl_parser.specs.Units as tree
use Rattle.decl_parser.specs.Units.{IsMember, IsDeclaration, IsEnd, IsUnit}
use Rattle.decl_parser.specs.Pieces.{IsMonitorHead, IsActionHead, IsPiece, IsLongestPiece, Cut, Start, Next, IsFaultAt, IsFault}
use Rattle.decl_parser.specs.Declaring.{piece, onward, cut, unit_read}
use Rattle.decl_parser.proofs.UnitLaws.{good_piece}
use Rattle.decl_parser.proofs.Whole.{nowhere}

many_more : {A : Type 0} (P : A → ℕ → ℕ → Type 0) (xs : List A) (x : A) (at mid end : ℕ) → Many P xs at mid → P x mid end → Many P (xs ++ x ∷ []) at end
many_more P [] x at mid end h i = (end, subst (λ n. P x n end) h i, refl)
many_more P (y ∷ ys) x at mid end h i = (h.0, h.1, many_more P ys x h.0 mid end h.2 i)

module _ (tokens : List Token) where
  -- declarations up to a place
  record Declared (at : ℕ) : Type 0 where
    all : List Declaration
    span : Many (IsDeclaration tokens) all 0 at

  -- declarations, and then a monitor's head and members up to a place
  record InMonitor (at : ℕ) : Type 0 where
    start : ℕ
    before : Declared start
    head : Name × Unit {0}
    mid : ℕ
    opened : IsMonitorHead tokens head start mid
    members : List Member
    span : Many (IsMember tokens) members mid at

  -- and then an action's head and statements up to a place
  record InAction (at : ℕ) : Type 0 where
    start : ℕ
    before : InMonitor start
    head : ((Name × List Param) × Option TypeExpr) × Unit {0}
    mid : ℕ
    opened : IsActionHead tokens head start mid
    body : List Stmt
    span : Many (IsStmt tokens) body mid at

  Holds : Region → ℕ → Type 0
  Holds region.Outside at = Declared at
  Holds region.Monitor at = InMonitor at
  Holds region.Action at = InAction at

  declared_more : (at end : ℕ) (d : Declaration) → Declared at → IsDeclaration tokens d at end → Declared end
  declared_more at end d h i = record { all = h.all ++ d ∷ []; span = many_more (IsDeclaration tokens) h.all d 0 at end h.span i }

  member_more : (at end : ℕ) (m : Member) → InMonitor at → IsMember tokens m at end → InMonitor end
  member_more at end m h i = record {
    start = h.start;
    before = h.before;
    head = h.head;
    mid = h.mid;
    opened = h.opened;
    members = h.members ++ m ∷ [];
    span = many_more (IsMember tokens) h.members m h.mid at end h.span i;
  }

  stepped : (here next : Region) (at end : ℕ) → Holds here at → IsPiece tokens here next at end → Holds next end
  unfolding Holds
  stepped region.Outside next at end h p =
      ⊎_elim
      (λ e. subst (λ r. Holds r end) (sym e.1) (declared_more at end (declaration.Event e.0) h (inl (e.0, refl, e.2))))
      (λ m. subst (λ r. Holds r end) (sym m.1)
      (record { start = at; before = h; head = m.0; mid = end; opened = m.2; members = []; span = refl }))
      p
  stepped region.Monitor next at end h p =
      ⊎_elim
      (λ g. subst (λ r. Holds r end) (sym g.1) (member_more at end (member.Global g.0) h (inl (g.0, refl, g.2))))
      (⊎_elim
      (λ a. subst (λ r. Holds r end) (sym a.1)
      (record { start = at; before = h; head = a.0; mid = end; opened = a.2; body = []; span = refl }))
      (λ c.
      let o = h.opened in
      let monitor = (tree.monitor_of (spot_at tokens h.start) (h.head.0, h.members)) in
      subst (λ r. Holds r end) (sym c.1)
      (declared_more h.start end (declaration.Monitor monitor) h.before
      (inr (monitor, refl, ((h.head.0, h.members), refl, (o.0, o.1, (((h.head.1, h.members), c.0), refl, (at, (h.mid, o.2, h.span), c.2)))))))))
      p
  stepped region.Action next at end h p =
      ⊎_elim
      (λ s. subst (λ r. Holds r end) (sym s.1)
      (record {
        start = h.start;
        before = h.before;
        head = h.head;
        mid = h.mid;
        opened = h.opened;
        body = h.body ++ s.0 ∷ [];
        span = many_more (IsStmt tokens) h.body s.0 h.mid at end h.span s.2.0;
      }))
      (λ c.
      let o = h.opened in
      let action = (tree.action_of (spot_at tokens h.start) (h.head.0, h.body)) in
      subst (λ r. Holds r end) (sym c.1)
      (member_more h.start end (member.Action action) h.before
      (inr (action, refl, ((h.head.0, h.body), refl, (o.0, o.1, (((h.head.1, h.body), c.0), refl, (at, (h.mid, o.2, h.span), c.2))))))))
      p

  held : {here : Region} {at : ℕ} → Cut tokens here at → Holds here at
  unfolding Holds
  held Start = record { all = []; span = refl }
  held (Next {here} {next} {at} {end} c p) = stepped here next at end (held c) p.is

  -- where the pieces come to the end outside the monitors there is a program file
  ends_outside : (at : ℕ) → Cut tokens region.Outside at → IsEnd tokens at → (u : ProgramFile) × IsUnit tokens u
  unfolding Holds IsUnit
  ends_outside at c e = let h = held c in (record { declarations = h.all }, (at, h.span, e))

  -- the cut comes to a place, and no piece begins there
  record Stops (x : Region × ℕ) : Type 0 where
    cut : Cut tokens x.0 x.1
    none : piece tokens x.0 x.1 ≡ None

  longest : (here : Region) (at : ℕ) (x : Region × ℕ) → piece tokens here at ≡ Some x → IsLongestPiece tokens here x.0 at x.1
  longest here at x e =
      let l = reads_longest (good_piece tokens here) in
      record { is = l.tree at x e; longest = λ other p i. l.longest at x e other p i }

  stops : (n : ℕ) (here : Region) (at : ℕ) → Cut tokens here at → length tokens ≤ n + at → Stops (cut tokens n here at)
  unfolding cut
  stops zero here at c enough = record { cut = c; none = by_turn (piece tokens here at) refl } where
    by_turn : (o : Option (Region × ℕ)) → piece tokens here at ≡ o → piece tokens here at ≡ None
    by_turn None e = e
    by_turn (Some x) e =
        let g = good_piece tokens here in let m = g.moves x.0 at x.1 (g.sound at x e) in absurd (omega arith)
  stops (suc n) here at c enough = by_turn (λ r p d i. stops n r p d i) (piece tokens here at) refl where
    by_turn : ((r : Region) (p : ℕ) → Cut tokens r p → length tokens ≤ n + p → Stops (cut tokens n r p)) → (o : Option (Region × ℕ)) → piece tokens here at ≡ o → Stops (onward (piece tokens here at) (here, at) (cut tokens n))
    by_turn go None e = subst (λ o. Stops (onward o (here, at) (cut tokens n))) (sym e) (record { cut = c; none = e })
    by_turn go (Some x) e =
        let g = good_piece tokens here in
        let m = g.moves x.0 at x.1 (g.sound at x e) in
        subst (λ o. Stops (onward o (here, at) (cut tokens n))) (sym e)
        (go x.0 x.1 (Next c (longest here at x e)) (omega arith))

  -- where no program file is read, the fault stands where the cut comes to
  fault_at : (x : Region × ℕ) → Stops x → unit_read tokens ≡ None → IsFaultAt tokens x.1
  fault_at x s e = record {
    here = x.0;
    cut = s.cut;
    nothing = λ next end i. (reads_longest (good_piece tokens x.0)).nowhere x.1 s.none next end i;
    unended = λ o i. let u = ends_outside x.1 (subst (λ r. Cut tokens r x.1) o s.cut) i in nowhere tokens u.0 e u.1;
  }

  pub fault : unit_read tokens ≡ None → IsFault tokens (spot_at tokens (cut tokens (length tokens) region.Outside 0).1)
  fault e =
      let x = cut tokens (length tokens) region.Outside 0 in
      record { place = x.1; stands = fault_at x (stops (length tokens) region.Outside 0 Start (omega arith)) e; is = refl }
