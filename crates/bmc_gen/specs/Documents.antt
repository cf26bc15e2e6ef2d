-- The configurations of a sample script.
use Rattle.std.specs.Prelude.{ℕ, List, ◌++◌, length, codes, decimal}

-- a sensor `X` at each board with the product name RSR1
abbrev pub riser : List ℕ
riser =
    codes "{\"Name\":\"Riser\",\"Probe\":\"xyz.openbmc_project.FruDevice({'BOARD_PRODUCT_NAME': '^RSR1$'})\","
    ++ codes "\"Exposes\":[{\"Name\":\"X\",\"Type\":\"Sensor\"}]}"

-- a board that is always found, with the sensors `T` and `Tach`, a fan, a zone, and a controller of each kind
abbrev pub fan_box : List ℕ
fan_box =
    codes "{\"Name\":\"Box\",\"Probe\":\"TRUE\",\"Exposes\":["
    ++ codes "{\"Name\":\"T\",\"Type\":\"Sensor\",\"Timeout\":20},"
    ++ codes "{\"Name\":\"Tach\",\"Type\":\"Sensor\",\"ScaleNum\":1000},"
    ++ codes "{\"Name\":\"Fan 1\",\"Type\":\"Fan\"},"
    ++ codes "{\"Name\":\"Z\",\"Type\":\"Pid.Zone\",\"MinThermalOutput\":1000,\"FailSafePercent\":80},"
    ++ codes "{\"Name\":\"TP\",\"Type\":\"Stepwise\",\"Zones\":[\"Z\"],\"Inputs\":[\"T\"],\"Reading\":[20,40],\"Output\":[2000,4000]},"
    ++ codes "{\"Name\":\"FP\",\"Type\":\"Pid\",\"Class\":\"fan\",\"Zones\":[\"Z\"],\"Inputs\":[\"Tach\"],\"Outputs\":[\"Fan 1\"],"
    ++ codes "\"FFGainCoefficient\":\"0.01\",\"OutLimitMin\":0,\"OutLimitMax\":100}]}"

-- a document as a block, behind the line that asks for it
abbrev pub config_text : List ℕ → List ℕ
config_text document = codes "config " ++ decimal (length document) ++ codes "\n" ++ document ++ codes "\n"
