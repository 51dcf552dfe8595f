-- What a start and a step stand over.
use Rattle.term_meaning.specs.Operands.{Setting}
use Rattle.term_meaning.specs.UnderWay.{setting_of}
use Rattle.term_operands.specs.declared.operands.Origin.{Origin}
use Rattle.event_terms.specs.declared.moment.Moment.{Moment}

-- the setting that an origin tells
abbrev pub setting : Origin → Setting
setting o = setting_of o.types.now o.site.now o.operands.now o.time

abbrev pub setting_at : Moment → Setting
setting_at m = setting m.origin
