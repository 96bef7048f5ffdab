use Rattle.wave_value.proofs.ConstructorAnswers.ListsAndEnums.{enum_built, enum_taken, enum_refused}
use Rattle.wave_value.proofs.value.Value.make_enum.Goals as goal

pub returns-in_ok-clone-in-Some-clause-built : goal.returns-in_ok-clone-in-Some-clause-built
returns-in_ok-clone-in-Some-clause-built c =
    enum_built _ _ _ c.in-Some.place c.in_ok-clone-in-Some.ensures.cases c.in-Some.ensures

pub returns-in_ok-clone-in-Some-clause-taken : goal.returns-in_ok-clone-in-Some-clause-taken
returns-in_ok-clone-in-Some-clause-taken c = enum_taken _ _ c.in-Some.place c.in-Some.ensures

pub returns-in-None-clause-refused : goal.returns-in-None-clause-refused
returns-in-None-clause-refused c = enum_refused _ _ _ c.in-Enum.ensures c.in-None.ensures c.named.ensures
