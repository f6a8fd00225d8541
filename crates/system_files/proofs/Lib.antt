mod CopyIds
