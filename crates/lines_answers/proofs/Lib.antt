mod WorkedPaths
