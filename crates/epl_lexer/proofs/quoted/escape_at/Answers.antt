use Rattle.std.proofs.Common.{sym, ap, get_or, arith, ◌<◌, ◌+◌, length}
use Rattle.epl_lexer.proofs.Strings.{told, no_more}
use Rattle.epl_lexer.proofs.quoted.escape_at.Goals as goal

pub returns-then-at-text : goal.returns-then-at-text
returns-then-at-text c = no_more _ _ c.if-at-text.true

pub returns : goal.returns
returns c =
    let inside : c.args.at + 1 < length c.args.text.now = let h = c.if-at-text.false in omega arith in
    told c.args.text.now c.args.at _ _ (sym c.if-not-is_at.ensures.set) inside (ap (λ b. get_or b (c.args.at + 1) 0) c.as_bytes.ensures.value) c.character_of.ensures
