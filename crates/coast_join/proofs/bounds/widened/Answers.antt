-- A wider rectangle has all that the narrower one has.
use Rattle.std.proofs.Common.{◌≡◌, ◌≤◌, ◌≤ℤ◌, ℤ, ℕ, min, subst, rules, arith}
use Rattle.std.proofs.lemmas.Int.{ints, to_z-of_z}
use mir.Syntax.{w32}
use Rattle.coast_join.proofs.bounds.widened.Goals as goal

through : (a b c : ℤ) → a ≤ℤ b → b ≤ℤ c → a ≤ℤ c
through a b c h l = omega (arith, ints)

least_second : (r a b : ℕ) → r ≡ min a b → r ≤ b
least_second r a b e = omega arith

least_other : (r a b n : ℕ) → r ≡ min a b → a ≤ n → r ≤ n
least_other r a b n e h = omega arith

pub returns-clause-here : goal.returns-clause-here
returns-clause-here c =
    let west : c.lesser-west.result ≤ℤ c.args.site.at.x = subst (λ z. c.lesser-west.result ≤ℤ z) (to_z-of_z w32 c.args.site.at.x (search rules)) c.lesser-west.ensures.second in
    let east : c.args.site.at.x ≤ℤ c.greater-east.result = subst (λ z. z ≤ℤ c.greater-east.result) (to_z-of_z w32 c.args.site.at.x (search rules)) c.greater-east.ensures.second in
    let south : c.lesser-south.result ≤ℤ c.args.site.at.y = subst (λ z. c.lesser-south.result ≤ℤ z) (to_z-of_z w32 c.args.site.at.y (search rules)) c.lesser-south.ensures.second in
    let north : c.args.site.at.y ≤ℤ c.greater-north.result = subst (λ z. z ≤ℤ c.greater-north.result) (to_z-of_z w32 c.args.site.at.y (search rules)) c.greater-north.ensures.second in
    rw (to_z-of_z w32 c.lesser-west.result (search rules), to_z-of_z w32 c.greater-east.result (search rules), to_z-of_z w32 c.lesser-south.result (search rules), to_z-of_z w32 c.greater-north.result (search rules))
    (record { west = west; east = east; south = south; north = north; least = least_second c.min-least.result c.args.bounds.least c.args.site.chain c.min-least.ensures })

pub returns-clause-others : goal.returns-clause-others
returns-clause-others c s h =
    let west : c.lesser-west.result ≤ℤ c.args.bounds.west = subst (λ z. c.lesser-west.result ≤ℤ z) (to_z-of_z w32 c.args.bounds.west (search rules)) c.lesser-west.ensures.first in
    let east : c.args.bounds.east ≤ℤ c.greater-east.result = subst (λ z. z ≤ℤ c.greater-east.result) (to_z-of_z w32 c.args.bounds.east (search rules)) c.greater-east.ensures.first in
    let south : c.lesser-south.result ≤ℤ c.args.bounds.south = subst (λ z. c.lesser-south.result ≤ℤ z) (to_z-of_z w32 c.args.bounds.south (search rules)) c.lesser-south.ensures.first in
    let north : c.args.bounds.north ≤ℤ c.greater-north.result = subst (λ z. z ≤ℤ c.greater-north.result) (to_z-of_z w32 c.args.bounds.north (search rules)) c.greater-north.ensures.first in
    rw (to_z-of_z w32 c.lesser-west.result (search rules), to_z-of_z w32 c.greater-east.result (search rules), to_z-of_z w32 c.lesser-south.result (search rules), to_z-of_z w32 c.greater-north.result (search rules))
    (record {
      west = through c.lesser-west.result c.args.bounds.west s.at.x west h.west;
      east = through s.at.x c.args.bounds.east c.greater-east.result h.east east;
      south = through c.lesser-south.result c.args.bounds.south s.at.y south h.south;
      north = through s.at.y c.args.bounds.north c.greater-north.result h.north north;
      least = least_other c.min-least.result c.args.bounds.least c.args.site.chain s.chain c.min-least.ensures h.least;
    })
