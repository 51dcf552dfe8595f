use Rattle.std.proofs.Common.{sym}
use Rattle.evt_text.proofs.Strings.{string-done, string-stop, string-more, string-smaller}
use Rattle.evt_text.proofs.scanner.Scanner.inside.Goals as goal

pub returns-in-Some : goal.returns-in-Some
returns-in-Some c =
    rw (c.in_ok-push.ensures.ok, c.plain.ensures.front) (string-done c.pieces.value c.pieces.self.rest.now c.in-Some.rest.now _ c.pieces.invariant (rw c.plain.ensures.rest at (sym c.in-Some.ensures)))

pub returns-in_default-escape : goal.returns-in_default-escape
returns-in_default-escape c =
    string-stop c.pieces.value c.pieces.self.rest.now _ c.pieces.invariant (rw c.plain.ensures.rest at (sym c.in_default.ensures)) (rw c.plain.ensures.rest at c.in_default-escape.ensures)

pub pieces-smaller : goal.pieces-smaller
pieces-smaller c = string-smaller _ _ _ (rw c.plain.ensures.rest at c.in-Some-escape.ensures)

pub pieces-preserved : goal.pieces-preserved
pieces-preserved c =
    rw (c.in_ok-push-2.ensures.ok, c.in_ok-push.ensures.ok, c.plain.ensures.front)
    (string-more c.pieces.value c.pieces.self.rest.now c.in-Some-escape.piece.now c.escape.new.self.rest.now _ c.pieces.invariant (rw c.plain.ensures.rest at (sym c.in_default.ensures)) (rw c.plain.ensures.rest at c.in-Some-escape.ensures))
