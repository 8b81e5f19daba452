-- Edges named by their places in a list. No public contract cites this.
use Rattle.std.specs.Prelude.{List, get_or, pos, ℕ}
use Rattle.plane.specs.Edge.{Edge}

abbrev pub nowhere : Edge
nowhere = record { from = record { x = pos 0; y = pos 0 }; to = record { x = pos 0; y = pos 0 } }

-- the edge at a place
abbrev pub edge_at : List Edge → ℕ → Edge
edge_at es i = get_or es i nowhere
