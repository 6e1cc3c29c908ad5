-- Which setting a configuration is refused for: the first that is out of its range
use Rattle.std.specs.Prelude.{ℕ, List, codes}
use Rattle.lh_addr.specs.Limits.{IsInitial, IsCapacity, IsLoad, IsSize}
use Rattle.lh_addr.specs.Settings.{Settings}
use Rattle.lh_addr.specs.declared.config.Range.{Range}
use Rattle.lh_addr.specs.declared.config.Range.TheVariants.{Initial, Capacity, Load, Max}

abbrev pub IsFirstOutOfRange : Settings → Range → Type 0
IsFirstOutOfRange s Initial = ¬ IsInitial s.initial
IsFirstOutOfRange s Capacity = IsInitial s.initial × ¬ IsCapacity s.capacity
IsFirstOutOfRange s Load = IsInitial s.initial × IsCapacity s.capacity × ¬ IsLoad s.load
IsFirstOutOfRange s Max = IsInitial s.initial × IsCapacity s.capacity × IsLoad s.load × ¬ IsSize s.initial s.max

-- how the refusal reads
abbrev pub range_text : Range → List ℕ
range_text Initial = codes "initial is out of range"
range_text Capacity = codes "capacity is out of range"
range_text Load = codes "load is out of range"
range_text Max = codes "max is out of range"
