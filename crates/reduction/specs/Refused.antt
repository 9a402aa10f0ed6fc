-- What a reduction of a list that is refused returns.
use Rattle.engine.specs.declared.list_refusal.ListRefusal.{ListRefusal}
use Rattle.engine.specs.Refusals.{list_code, list_offset}
use Rattle.reduction.specs.declared.Reduction.{Reduction}

abbrev pub refused_reduction : ListRefusal → Reduction
refused_reduction r = record { code = list_code r; kept = list_offset r; runs = 0 }
