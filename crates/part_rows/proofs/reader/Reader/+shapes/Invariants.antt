use Rattle.part_rows.proofs.reader.Reader.+shapes.Given as goal

abbrev pub decreases-shape : goal.decreases-shape
decreases-shape l = l.depth
