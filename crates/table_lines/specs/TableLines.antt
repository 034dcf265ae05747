-- All that is written of a summary. Working definitions; `figure_lines` of the claims says it again, of the printed numbers.
use Rattle.std.specs.Prelude.{ℕ, ◌+◌, ◌*◌, List, ◌++◌}
use Rattle.summary.specs.declared.Summary.{Summary}
use Rattle.table_lines.specs.RowLine.{standings_line, standings_room, header_line, header_room, row_room, table_rows, arl_line, arl_room}
use Rattle.table_lines.specs.PercentLine.{percent_lines, percents_room}
use Rattle.table_lines.specs.LargestHorizon.{max_rows}

-- N standings, h rows of the chances and of what is left, the mean's whole part and fraction with its error bound, the five percentiles
unfoldable pub table_bytes : Summary → ℕ → List ℕ → List ℕ → List ℕ
table_bytes s h pmf survival =
    standings_line s.figures.state_count
    ++ header_line
    ++ table_rows h pmf survival
    ++ arl_line s.figures.mean_whole s.figures.mean_fraction s.error_bound
    ++ percent_lines s

-- the most bytes
abbrev pub table_room : ℕ
table_room = standings_room + header_room + row_room * max_rows + arl_room + percents_room
